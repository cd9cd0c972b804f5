-- What a fault that says that a file was not read rests on: a source of that file that was given up, or gave too many bytes. A
-- file system has its own sources, and no other can be named.
use Rattle.std.specs.Prelude.{ℕ, ◌≡◌, zero, suc, ◌⊎◌, List, Some}
use Rattle.std.specs.List.{slice_get}
use Rattle.ffv1_holding.specs.declared.recordings.Recordings.{Recordings}
use Rattle.ffv1_devices.specs.Logs.{ReadLog}
use Rattle.ffv1_devices.specs.Exact.{StopsReading}
use Rattle.ffv1_commands.specs.Devices.{IsGivenUp, GivesUpWithin, IsUnread}
use Rattle.ffv1_commands.specs.Holdings.{IsUnheld}
use Rattle.ffv1_commands.specs.declared.fault.CliFault.{CliFault}
use Rattle.ffv1_commands.specs.declared.fault.CliFault.TheVariants as faults
use Rattle.ffv1_commands.specs.declared.path.CommandPath.{CommandPath}
use Rattle.ffv1_commands.specs.declared.path.CommandPath.TheVariants as paths

-- What holds of the path of a file that was not read.
abbrev pub IfUnread : (CommandPath → Type 0) → CliFault → Type 0
IfUnread P (faults.Read path) = P path
IfUnread P _ = Unit {0}

-- A source of the file of this word went so.
abbrev pub SomeSource : {Device : Type 0} → (is_at : List ℕ → Device → Type 0) → (log : Device → ReadLog) → (Went : ReadLog → ReadLog → Type 0)
    → List ℕ → Type 0
SomeSource {Device} is_at log Went word = (old : Device) × (new : Device) × is_at word old × Went (log old) (log new)

-- A source was given up, or ended before all bytes came that were asked for.
abbrev pub GivesShort : (old new : ReadLog) → Type 0
GivesShort old new = (bytes : List ℕ) × StopsReading old new bytes

-- The list of ranges was not read, within the limit of a payload; or the file was not read to the end of its ranges.
abbrev pub IsUnscanned : (SourceWent : (ReadLog → ReadLog → Type 0) → List ℕ → Type 0) → (ranges file : List ℕ) → CommandPath → Type 0
IsUnscanned SourceWent ranges file paths.Ranges = SourceWent IsUnread ranges
IsUnscanned SourceWent ranges file paths.File = SourceWent GivesShort file
IsUnscanned SourceWent ranges file _ = ⊥

-- The record or the frame was not read, within the limit of a payload.
abbrev pub IsUndecoded : (SourceWent : (ReadLog → ReadLog → Type 0) → List ℕ → Type 0) → (record' frame : List ℕ) → CommandPath → Type 0
IsUndecoded SourceWent record' frame paths.Record = SourceWent IsUnread record'
IsUndecoded SourceWent record' frame paths.Frame = SourceWent IsUnread frame
IsUndecoded SourceWent record' frame _ = ⊥

-- The word at this place is that of a file of which this holds.
abbrev pub HoldsAt : (List ℕ → Type 0) → List (List ℕ) → ℕ → Type 0
HoldsAt P words place = (word : List ℕ) × (slice_get words place ≡ Some word) × P word

-- The record was not read, within the limit of a payload; or the source of a copy was given up.
abbrev pub IsUntaken : (SourceWent : (ReadLog → ReadLog → Type 0) → List ℕ → Type 0) → (record' : List ℕ) → (copies : List (List ℕ)) → CommandPath → Type 0
IsUntaken SourceWent record' copies paths.Record = SourceWent IsUnread record'
IsUntaken SourceWent record' copies (paths.Copy place) = HoldsAt (SourceWent GivesUpWithin) copies place
IsUntaken SourceWent record' copies _ = ⊥

-- The first file was not read, or one of those after it.
abbrev pub IsUnjoined : Recordings → (BufferedWent : (ReadLog → ReadLog → Type 0) → List ℕ → Type 0) → (first : List ℕ) → (others : List (List ℕ)) → CommandPath → Type 0
IsUnjoined recordings BufferedWent first others (paths.Hold zero) = BufferedWent (IsUnheld recordings) first
IsUnjoined recordings BufferedWent first others (paths.Hold (suc place)) = HoldsAt (BufferedWent (IsUnheld recordings)) others place
IsUnjoined recordings BufferedWent first others _ = ⊥

-- The first file was not opened; or the second one was not, after the first was; or one of both was not read once they were.
abbrev pub IsUnmerged : (IsUnopened : List ℕ → Type 0) → (OpenedWent : (ReadLog → ReadLog → Type 0) → List ℕ → Type 0) → (left right : List ℕ)
    → CommandPath → Type 0
IsUnmerged IsUnopened OpenedWent left right (paths.Hold zero) = IsUnopened left
IsUnmerged IsUnopened OpenedWent left right (paths.Hold (suc zero)) = OpenedWent (λ _ _. Unit {0}) left × IsUnopened right
IsUnmerged IsUnopened OpenedWent left right paths.Inputs = OpenedWent IsGivenUp left ⊎ OpenedWent IsGivenUp right
IsUnmerged IsUnopened OpenedWent left right _ = ⊥

-- A copy was not read, within the limit of a payload.
abbrev pub IsSpliceUnread : (SourceWent : (ReadLog → ReadLog → Type 0) → List ℕ → Type 0) → (copies : List (List ℕ)) → CommandPath → Type 0
IsSpliceUnread SourceWent copies (paths.Copy place) = HoldsAt (SourceWent IsUnread) copies place
IsSpliceUnread SourceWent copies _ = ⊥

-- The list was not read, within the limit of a payload; or a copy was not read to the end of its stretches.
abbrev pub IsUnmended : (SourceWent : (ReadLog → ReadLog → Type 0) → List ℕ → Type 0) → (list : List ℕ) → (copies : List (List ℕ)) → CommandPath → Type 0
IsUnmended SourceWent list copies paths.List = SourceWent IsUnread list
IsUnmended SourceWent list copies (paths.Copy place) = HoldsAt (SourceWent GivesShort) copies place
IsUnmended SourceWent list copies _ = ⊥

-- The record or a frame was not read, within the limit of a payload.
abbrev pub IsUnplayed : (SourceWent : (ReadLog → ReadLog → Type 0) → List ℕ → Type 0) → (record' : List ℕ) → (frames : List (List ℕ)) → CommandPath → Type 0
IsUnplayed SourceWent record' frames paths.Record = SourceWent IsUnread record'
IsUnplayed SourceWent record' frames (paths.Copy place) = HoldsAt (SourceWent IsUnread) frames place
IsUnplayed SourceWent record' frames _ = ⊥
