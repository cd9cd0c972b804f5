-- The next stretch of a copy, after what stands before it.
use Rattle.std.proofs.Common.{◌≡◌, ℕ, ◌+◌, ◌-◌, ◌≤◌, List, ◌++◌, length, take, refl, arith, Err, length-append}
use Rattle.std.proofs.lemmas.List.{length-take-le}
use Rattle.ffv1_devices.specs.Logs.{ReadLog, Reads}
use Rattle.ffv1_devices.specs.Exact.{ReadsNext}
use Rattle.ffv1_devices.specs.declared.exact.NextFault.{NextFault}
use Rattle.ffv1_devices.specs.declared.exact.NextFault.TheVariants as faults
use Rattle.ffv1_devices.proofs.Steps.{Reads-trans}
use Rattle.ffv1_devices.proofs.ExactSteps.{StopsReading-after}
use Rattle.ffv1_stretches.specs.Copies.{CopyState}
use Rattle.ffv1_stretches.specs.Inner.Copies.{ReadsStretch, ReadsCopy}

-- it did not come whole
pub copy_stops : (T : Type 0) (place size : ℕ) (old new : CopyState) (between : ReadLog) (room before : List ℕ) (fault : NextFault)
    → Reads old.log between before → length before ≡ place - old.end → ReadsNext {T = T} size (Err fault) room between new.log
    → ReadsCopy {T = T} place size (Err fault) old new
copy_stops T place size old new between room before faults.Read read long stops = (
  before ++ stops.0,
  StopsReading-after old.log between new.log before stops.0 read stops.1,
  omega (arith, length-append before stops.0, long, stops.2),
)
copy_stops T place size old new between room before faults.Memory read long stops = (
  before ++ stops.0,
  Reads-trans old.log between new.log before stops.0 read stops.1,
  omega (arith, length-append before stops.0, long, stops.2),
)

-- it came
pub copy_read : (place size : ℕ) (old new : CopyState) (between : ReadLog) (before : List ℕ) → old.end ≤ place → Reads old.log between before
    → length before ≡ place - old.end → Reads between new.log (take size new.room) → size ≤ length new.room → new.end ≡ place + size
    → ReadsStretch place size old new (before ++ take size new.room)
copy_read place size old new between before after read long next fits end = record {
  before = before;
  here = take size new.room;
  whole = refl;
  gap = omega (arith, long);
  long = length-take-le size new.room fits;
  read = Reads-trans old.log between new.log before (take size new.room) read next;
  end' = end;
  held = refl;
  fits = fits;
}
