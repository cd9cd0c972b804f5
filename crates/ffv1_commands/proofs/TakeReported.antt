-- What taking copies says of the record, the copies and the outputs.
use Rattle.std.proofs.Common.{◌≡◌, ℕ, ◌+◌, ◌<◌, Bool, List, length, map, take, Option, Result, Ok, Err, IfOk, IfErr, refl, sym, ap, ◌∙◌, subst, inl, inr, arith}
use Rattle.std.specs.Io.KnownBytes.{Appends}
use Rattle.std.proofs.lemmas.List.{length-map}
use Rattle.ffv1_bits.specs.Limits.{payload_limit}
use Rattle.ffv1_holding.specs.declared.recordings.Recordings.{Recordings}
use Rattle.ffv1_devices.specs.Logs.{ReadLog, WriteLog, Reads}
use Rattle.ffv1_holding.specs.Reels.{Reel}
use Rattle.ffv1_holding.specs.Contents.{Contents}
use Rattle.ffv1_hold.specs.HoldingText.{holding_text}
use Rattle.ffv1_holding.specs.TakeFaults.{IsTakeFault}
use Rattle.ffv1_holding.specs.declared.fault.HoldFault.{HoldFault}
use Rattle.ffv1_holding.specs.declared.fault.HoldFault.TheVariants as holds
use Rattle.ffv1_commands.specs.Devices.{IsCopyFault, IfOfRecord, WriteStops, TakesWhole, CopyStops}
use Rattle.ffv1_commands.specs.InTurn.{StopsAtCopy, IfCopyUnread}
use Rattle.ffv1_commands.specs.RecordInputs.{IsReelInput, TakesReel, ReelStops}
use Rattle.ffv1_commands.specs.Fault.{NamesPath, of_hold}
use Rattle.ffv1_commands.specs.Paths.{IsTakePath}
use Rattle.ffv1_commands.specs.TakenFrames.{IsTakenReel, IsFiled}
use Rattle.ffv1_commands.specs.Holdings.{IsSavedFile, IsFileFault}
use Rattle.ffv1_commands.specs.Inner.Holdings.{MadeStops}
use Rattle.ffv1_commands.specs.TakeText.{TakesEach, TakesCopies, IsFaultOfInputs, FaultKeepsLater, LaterKept, TakeStops, ReportsTake}
use Rattle.ffv1_commands.specs.declared.fault.CliFault.{CliFault}
use Rattle.ffv1_commands.specs.declared.fault.CliFault.TheVariants as faults
use Rattle.ffv1_commands.specs.declared.path.CommandPath.{CommandPath}
use Rattle.ffv1_commands.specs.declared.path.CommandPath.TheVariants as paths
use Rattle.ffv1_commands.proofs.InputFaults.{IsUnwritten}
use Rattle.ffv1_commands.proofs.InputLaws.{whole_input, taken_whole}
use Rattle.ffv1_commands.proofs.RecordFaults.{ReelStops-says, reel_in_turn}
use Rattle.ffv1_commands.proofs.Reporting.{whole_of, Consumes-longer}
use Rattle.ffv1_commands.proofs.MadeFiles.{made_says, made_bytes}

-- ---- what a refusal says

-- a copy's fault is none of the record
IsFaultOfInputs-in_turn : (P : Type 0) (inputs : List (Option (List ℕ))) (fault : CliFault) → IsFaultOfInputs inputs fault → IfOfRecord fault P
IsFaultOfInputs-in_turn P inputs (faults.Read path) (i, (lt, before, same)) = λ is. absurd (cc)
IsFaultOfInputs-in_turn P inputs (faults.Setup fault) (i, (lt, before, stops)) = absurd stops
IsFaultOfInputs-in_turn P inputs fault stops = tt

-- it names one of the paths
copies_name : (inputs : List (Option (List ℕ))) (n : ℕ) → length inputs ≡ n → (fault : CliFault) → IsFaultOfInputs inputs fault
    → NamesPath (IsTakePath n) fault
copies_name inputs n is (faults.Read path) (i, (lt, before, same)) = subst (IsTakePath n) (sym same) (omega (arith, lt, is))
copies_name inputs n is (faults.Hold fault) stops = tt
copies_name inputs n is faults.Memory stops = tt
copies_name inputs n is fault (i, (lt, before, stops)) = absurd stops

-- ---- one copy

-- what any fault of a copy says, if that of each form says so
pub CopyStops-says : (P : CliFault → Type 0) (path : CommandPath) (fault : CliFault) (a b : ReadLog) → P (faults.Read path)
    → ((bytes : List ℕ) → Reads a b bytes → length bytes ≡ payload_limit + 1 → P (faults.Hold holds.PayloadTooLong)) → P faults.Memory
    → CopyStops path fault a b → P fault
CopyStops-says P path (faults.Read named) a b read long memory (same, stopped) = subst (λ n. P (faults.Read n)) (sym same) read
CopyStops-says P path (faults.Hold fault) a b read long memory (same, (bytes, took, more)) =
    subst (λ (f : HoldFault). P (faults.Hold f)) (sym same) (long bytes took more)
CopyStops-says P path faults.Memory a b read long memory within = memory
CopyStops-says P path fault a b read long memory stops = absurd stops

-- why a copy was not read, by its bytes
copy_unread : (path : CommandPath) (fault : CliFault) (a b : ReadLog) → CopyStops path fault a b → IsCopyFault path a.remaining fault
copy_unread path fault a b stops = CopyStops-says (IsCopyFault path a.remaining) path fault a b refl
    (λ bytes took more. (refl, Consumes-longer a.remaining b.remaining bytes payload_limit took.bytes' (omega arith))) tt stops

-- a copy that was read, and so is within the limit, is refused for memory alone
pub copy_untaken : (before : ℕ) (a b : ReadLog) (copy : List ℕ) → TakesWhole a b copy → (fault : HoldFault) → IsTakeFault copy fault
    → CopyStops (paths.Copy before) (of_hold fault) a b
copy_untaken before a b copy took holds.Memory short = (copy, took.read, took.few)
copy_untaken before a b copy took holds.PayloadTooLong long = absurd (omega (arith, took.few, long))
copy_untaken before a b copy took holds.OtherReel none = absurd none

-- ---- over the logs of the devices

-- the record is that of its reel
pub reel_read : (recordings : Recordings) (a b : ReadLog) (config : List ℕ) (width height : ℕ) (reel : Reel) → TakesWhole a b config → IsTakenReel recordings config width height reel
    → TakesReel recordings width height a b reel
reel_read recordings a b config width height reel took is =
    let same : config ≡ reel.config = sym (ap (λ (r : Reel). r.config) is.2 ∙ ap (λ (r : Reel). r.config) is.1.2) in
    record { read = subst (TakesWhole a b) same took; of_record = subst (λ (c : List ℕ). IsTakenReel recordings c width height reel) same is }

-- at a fault of the copies nothing was written
pub copies-unwritten : {C : Type 0} (reports : C → Option (List ℕ)) (old new : List C) (fault : CliFault) → StopsAtCopy CopyStops reports old new fault
    → IsUnwritten fault
copies-unwritten reports old new fault stops =
    CopyStops-says IsUnwritten (paths.Copy stops.index) fault _ stops.stopped.0 tt (λ bytes took more. tt) tt stops.stopped.1

-- no fault of the record says that a copy was not read
pub record_read : {X : Type 0} (recordings : Recordings) (Went : X → X → Type 0) (old new : List X) (width height : ℕ) (a b : ReadLog) (fault : CliFault)
    → ReelStops recordings width height a b fault → IfCopyUnread Went old new fault
record_read recordings Went old new width height a b fault stops =
    ReelStops-says recordings (IfCopyUnread Went old new) width height a b fault tt tt (λ setup config took first. tt) stops

-- ---- the same of bytes

module _ (recordings : Recordings) (record' : Option (List ℕ)) (width height : ℕ) (inputs : List (Option (List ℕ))) (ob oa pb pa : Option (List ℕ)) (reel : Reel)
    (of_record : IsReelInput recordings record' width height reel) where
  copies_refused : (fault : CliFault) → IsFaultOfInputs inputs fault → TakeStops recordings record' width height inputs ob oa pb pa fault
  copies_refused (faults.Read path) stops = inr (reel, of_record, stops)
  copies_refused (faults.Hold fault) stops = (reel, of_record, stops)
  copies_refused faults.Memory stops = tt
  copies_refused fault (i, (lt, before, stops)) = absurd stops

  module _ (held : Contents) (lines : List ℕ) (in_order : Bool) (each : TakesEach recordings inputs reel held lines in_order) where
    made_refused : (fault : CliFault) → MadeStops held lines ob oa pb pa fault → TakeStops recordings record' width height inputs ob oa pb pa fault
    made_refused (faults.HoldFile fault) stops = (
      reel,
      each.copies,
      of_record,
      taken_whole inputs each.copies each.read,
      subst (λ (h : Contents). IsFileFault h (faults.HoldFile fault)) each.held stops,
    )
    made_refused (faults.Write named) (filed, is, stops) = (
      reel,
      each.copies,
      of_record,
      taken_whole inputs each.copies each.read,
      (
        filed,
        subst (λ (h : Contents). IsFiled h filed) each.held is,
        subst (λ (l : List ℕ). WriteStops (holding_text filed) l ob oa pb pa (faults.Write named)) each.lines stops,
      ),
    )
    made_refused fault stops = absurd stops

-- where a copy was not taken, its fault is one of the inputs, and those after it are as they were
copy_refused : {C : Type 0} (reports : C → Option (List ℕ)) (old new : List C) (fault : CliFault) → StopsAtCopy CopyStops reports old new fault
    → FaultKeepsLater reports old new fault
copy_refused reports old new fault stops =
    let few : stops.index < length (map reports old) = omega (arith, stops.there, length-map old reports) in
    let earlier = taken_whole (take stops.index (map reports old)) stops.copies stops.earlier in
    let refused = copy_unread (paths.Copy stops.index) fault _ stops.stopped.0 stops.stopped.1 in
    (stops.index, (few, (stops.copies, earlier), refused), stops.later)

-- a fault of the copies leaves those after it
later_kept : {C : Type 0} (reports : C → Option (List ℕ)) (old new : List C) (fault : CliFault) → FaultKeepsLater reports old new fault → LaterKept reports old new fault
later_kept reports old new (faults.Read path) (i, (lt, before, same), later) =
    subst (λ (p : CommandPath). LaterKept reports old new (faults.Read p)) (sym same) later
later_kept reports old new (faults.Hold fault) stops = stops
later_kept reports old new fault stops = tt

pub record TakeOfBytes {C : Type 0} (recordings : Recordings) (r : Result Bool CliFault) (reports : C → Option (List ℕ)) (record' : Option (List ℕ)) (width height : ℕ) (old new : List C)
    (ob oa pb pa : Option (List ℕ)) : Type 0 where
  pub ok : IfOk r (TakesCopies recordings record' width height (map reports old) ob oa pb pa)
  pub err : IfErr r (TakeStops recordings record' width height (map reports old) ob oa pb pa)
  pub in_turn : IfErr r (λ fault. IfOfRecord fault (new ≡ old))
  pub later : IfErr r (LaterKept reports old new)
  pub names : IfErr r (NamesPath (IsTakePath (length old)))

module _ {C : Type 0} (recordings : Recordings) (reports : C → Option (List ℕ)) (width height : ℕ) (a b : ReadLog) (old new : List C) (out out' output output' : WriteLog) where
  reel_input : (reel : Reel) → TakesReel recordings width height a b reel → IsReelInput recordings a.remaining width height reel
  reel_input reel read = record {
    read = whole_input a.remaining b.remaining reel.config (whole_of a b reel.config read.read);
    of_record = read.of_record;
  }

  abbrev of_bytes : Result Bool CliFault → Type 0
  of_bytes r = TakeOfBytes recordings r reports a.remaining width height old new out.contents out'.contents output.contents output'.contents

  pub take_of_bytes : (r : Result Bool CliFault) → ReportsTake recordings r reports width height a b old new out out' output output' → of_bytes r
  take_of_bytes (Ok in_order) (held, lines, all, made) = record {
    ok = record {
      reel = all.reel;
      of_record = reel_input all.reel all.of_record;
      copies = all.each.copies;
      read = taken_whole (map reports old) all.each.copies all.each.read;
      file = made.file;
      saved = subst (λ (h : Contents). IsSavedFile h made.file) all.each.held made.saved;
      written = made.written.bytes';
      printed = subst (Appends output.contents output'.contents) all.each.lines made.printed.bytes';
      order = all.each.order;
    };
    err = tt;
    in_turn = tt;
    later = tt;
    names = tt;
  }
  take_of_bytes (Err fault) (inl (refuses, same, kept)) = record {
    ok = tt;
    err = ReelStops-says recordings (TakeStops recordings a.remaining width height (map reports old) out.contents out'.contents output.contents output'.contents)
        width height a b fault (inl refl) tt
        (λ setup config took first. (config, whole_input a.remaining b.remaining config (whole_of a b config took), first)) refuses;
    in_turn = reel_in_turn recordings width height a b (new ≡ old) same fault refuses;
    later = ReelStops-says recordings (LaterKept reports old new) width height a b fault tt tt (λ setup config took first. tt) refuses;
    names = ReelStops-says recordings (NamesPath (IsTakePath (length old))) width height a b fault tt tt (λ setup config took first. tt) refuses;
  }
  take_of_bytes (Err fault) (inr (inl (reel, read, stops, kept))) =
      let (i, at, later) = copy_refused reports old new fault stops in
      record {
        ok = tt;
        err = copies_refused _ a.remaining width height (map reports old) out.contents out'.contents output.contents output'.contents reel
            (reel_input reel read) fault (i, at);
        in_turn = IsFaultOfInputs-in_turn (new ≡ old) (map reports old) fault (i, at);
        later = later_kept reports old new fault (i, at, later);
        names = copies_name (map reports old) (length old) (length-map old reports) fault (i, at);
      }
  take_of_bytes (Err fault) (inr (inr (held, lines, in_order, all, breaks))) = record {
    ok = tt;
    err = made_refused recordings a.remaining width height (map reports old) out.contents out'.contents output.contents output'.contents all.reel
        (reel_input all.reel all.of_record) held lines in_order all.each fault (made_bytes held lines out out' output output' fault breaks);
    in_turn = made_says held lines out out' output output' (λ f. IfOfRecord f (new ≡ old)) (λ file. tt) tt tt fault breaks;
    later = made_says held lines out out' output output' (LaterKept reports old new) (λ file. tt) tt tt fault breaks;
    names = made_says held lines out out' output output' (NamesPath (IsTakePath (length old))) (λ file. tt) tt tt fault breaks;
  }
