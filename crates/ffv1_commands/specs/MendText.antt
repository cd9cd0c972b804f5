-- What the command `mend` reads, makes and prints: a list of stretches, each copy from its start on, no further than to the end of its last
-- stretch, the file OUT, which is what becomes of the stretches, and their lines.
use Rattle.std.specs.Prelude.{ℕ, ◌≡◌, ◌⊎◌, Bool, List, [], ◌∷◌, ◌++◌, length, Option, Result, Ok, Err}
use Rattle.std.specs.List.{AllZip, list_all}
use Rattle.std.specs.Io.KnownBytes.{Appends, Keeps}
use Rattle.ffv1_devices.specs.Logs.{ReadLog, WriteLog}
use Rattle.ffv1_mend.specs.Mended.{MendedValue, is_good}
use Rattle.ffv1_stretches.specs.Stretches.{StretchValue}
use Rattle.ffv1_stretches.specs.Listed.{AreStretches, IsFirstBadLine}
use Rattle.ffv1_stretches.specs.Lines.{mend_text}
use Rattle.ffv1_stretches.specs.Passes.{MendsFront, EndsWithin, bytes_of, MendsAll, StopsMending}
use Rattle.ffv1_stretches.specs.declared.pass.MendFault.{MendFault}
use Rattle.ffv1_stretches.specs.declared.pass.MendFault.TheVariants as stops
use Rattle.ffv1_commands.specs.Devices.{InputBegins, BothKept, IsUnread, WritesFront}
use Rattle.ffv1_commands.specs.Fault.{of_mend}
use Rattle.ffv1_commands.specs.Lists.{ReadsList, IsList}
use Rattle.ffv1_commands.specs.declared.fault.CliFault.{CliFault}
use Rattle.ffv1_commands.specs.declared.fault.CliFault.TheVariants as faults
use Rattle.ffv1_commands.specs.declared.path.CommandPath.TheVariants as paths

-- ---- over devices

-- why the list lists no stretches of so many copies
abbrev pub IsFaultOfList : ℕ → (old new : ReadLog) → CliFault → Type 0
IsFaultOfList copies old new (faults.Read path) = (path ≡ paths.List) × IsUnread old new
IsFaultOfList copies old new (faults.List number) = ReadsList (λ text. IsFirstBadLine copies text number) old new
IsFaultOfList copies old new faults.Memory = Unit {0}
IsFaultOfList copies old new _ = ⊥

-- The list lists stretches of so many copies, and this came of them.
abbrev pub MendsListed : ℕ → (old new : ReadLog) → (List StretchValue → Type 0) → Type 0
MendsListed copies old new P = (stretches : List StretchValue) × ReadsList (λ text. AreStretches copies text stretches) old new × P stretches

-- All stretches were mended; or the list lists none, and neither the copies nor the outputs were touched; or the pass over the copies
-- stopped.
abbrev pub ReportsMend : Result Bool CliFault → (list_old list_new : ReadLog) → (old new : List ReadLog) → (out_old out_new output_old output_new : WriteLog)
    → Type 0
ReportsMend (Ok good) list_old list_new old new out_old out_new output_old output_new =
    MendsListed (length old) list_old list_new (λ stretches. MendsAll stretches old new out_old out_new output_old output_new good)
ReportsMend (Err fault) list_old list_new old new out_old out_new output_old output_new =
    (IsFaultOfList (length old) list_old list_new fault × (new ≡ old) × BothKept out_old out_new output_old output_new)
    ⊎ ((stop : MendFault) × (fault ≡ of_mend stop)
    × MendsListed (length old) list_old list_new (λ stretches. StopsMending stretches old new out_old out_new output_old output_new stop))

-- ---- over the bytes of inputs and outputs

-- The list lists these stretches of the copies. Each copy, if its bytes are known, begins with what was read of it. Of that the
-- stretches of a front become this.
pub record MendsSome (list : Option (List ℕ)) (copies : List (Option (List ℕ))) (stretches front : List StretchValue) (files : List (List ℕ))
    (mended : List MendedValue) : Type 0 where
  pub list' : IsList (λ text. AreStretches (length copies) text stretches) list
  pub begin : AllZip InputBegins copies files
  pub mends : MendsFront stretches front files mended

-- What becomes of all stretches was written to OUT, and their lines were printed, and the command returned whether each is good.
pub record MendsFiles (list : Option (List ℕ)) (copies : List (Option (List ℕ))) (out_before out_after printed_before printed_after : Option (List ℕ))
    (good : Bool) : Type 0 where
  pub stretches : List StretchValue
  pub files : List (List ℕ)
  pub mended : List MendedValue
  pub all : MendsSome list copies stretches stretches files mended
  pub wrote : Appends out_before out_after (bytes_of mended)
  pub printed : Appends printed_before printed_after (mend_text 1 files stretches mended)
  pub returned : good ≡ list_all (λ one. is_good one.state) mended

-- why the list of so many copies lists no stretches
abbrev pub IsNoList : ℕ → Option (List ℕ) → CliFault → Type 0
IsNoList copies list (faults.Read path) = path ≡ paths.List
IsNoList copies list (faults.List number) = IsList (λ text. IsFirstBadLine copies text number) list
IsNoList copies list faults.Memory = Unit {0}
IsNoList copies list _ = ⊥

-- What a pass that stopped left. `Read`: the copy of this number was given up, or ended within the first stretch after a front, and all of the
-- front was written and printed. `Memory`: the same, but no copy stopped. `Out`: a front of what becomes of the stretches of a front was
-- written, and the lines of those before the last. `Output`: what becomes of the stretches of a front was written, and a front of their
-- lines.
abbrev pub PassStops : (list : Option (List ℕ)) (copies : List (Option (List ℕ))) (out_before out_after printed_before printed_after : Option (List ℕ))
    → MendFault → Type 0
PassStops list copies out_before out_after printed_before printed_after (stops.Read copy) =
    (stretches : List StretchValue) × (front : List StretchValue) × (files : List (List ℕ)) × (mended : List MendedValue)
    × (some : MendsSome list copies stretches front files mended) × EndsWithin copy some.mends.rest files
    × Appends out_before out_after (bytes_of mended) × Appends printed_before printed_after (mend_text 1 files front mended)
PassStops list copies out_before out_after printed_before printed_after stops.Memory =
    (stretches : List StretchValue) × (front : List StretchValue) × (files : List (List ℕ)) × (mended : List MendedValue)
    × MendsSome list copies stretches front files mended
    × Appends out_before out_after (bytes_of mended) × Appends printed_before printed_after (mend_text 1 files front mended)
PassStops list copies out_before out_after printed_before printed_after stops.Out =
    (stretches : List StretchValue) × (front : List StretchValue) × (stretch : StretchValue) × (files : List (List ℕ)) × (mended : List MendedValue)
    × (one : MendedValue) × MendsSome list copies stretches (front ++ stretch ∷ []) files (mended ++ one ∷ [])
    × WritesFront out_before out_after (bytes_of (mended ++ one ∷ [])) × Appends printed_before printed_after (mend_text 1 files front mended)
PassStops list copies out_before out_after printed_before printed_after stops.Output =
    (stretches : List StretchValue) × (front : List StretchValue) × (files : List (List ℕ)) × (mended : List MendedValue)
    × MendsSome list copies stretches front files mended
    × Appends out_before out_after (bytes_of mended) × WritesFront printed_before printed_after (mend_text 1 files front mended)

-- What a fault says, and what it left: nothing is written where the list lists no stretches, or memory runs out before a copy is read; else
-- the pass over the copies stopped.
pub data MendStops (list : Option (List ℕ)) (copies : List (Option (List ℕ))) (out_before out_after printed_before printed_after : Option (List ℕ)) :
    CliFault → Type 0 where
  of_list : (fault : CliFault) → IsNoList (length copies) list fault → Keeps out_before out_after → Keeps printed_before printed_after
      → MendStops list copies out_before out_after printed_before printed_after fault
  of_pass : (stop : MendFault) → PassStops list copies out_before out_after printed_before printed_after stop
      → MendStops list copies out_before out_after printed_before printed_after (of_mend stop)
