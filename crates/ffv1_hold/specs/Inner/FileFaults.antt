-- The parts of a holding file that have been read, and which of them show a fault.
use Rattle.std.specs.Prelude.{ℕ, Bool, ◌≡◌, ◌≤◌, ◌⊎◌, length, List, [], ◌∷◌, ◌++◌, Option, None, Result}
use Rattle.ffv1_hold.specs.declared.file_fault.HoldFileFault.{HoldFileFault}
use Rattle.ffv1_hold.specs.declared.file_fault.HoldFileFault.TheVariants as faults
use Rattle.ffv1_hold.specs.declared.version.Version.{Version}
use Rattle.ffv1_bits.specs.Limits.{record_limit}
use Rattle.ffv1_devices.specs.Logs.{ReadLog}
use Rattle.ffv1_holding.specs.Reels.{Reel, IsReel}
use Rattle.ffv1_holding.specs.declared.recordings.Recordings.{Recordings}
use Rattle.ffv1_holding.specs.Contents.{Contents, IsHolding}
use Rattle.ffv1_hold.specs.HoldingText.{FileEntry, magic, entries_text, file_entries, IsStated, TellsMagic}
use Rattle.ffv1_hold.specs.FileEntries.{last_of, KeepsMagic}
use Rattle.ffv1_hold.specs.Inner.FileEntries.{next_text}
use Rattle.ffv1_hold.specs.Inner.Reading.{ReadsText}
use Rattle.ffv1_hold.specs.FileFaults.{IsPartOfReel, ReelShows, ReelIsWhole, IsMagic, IsPartOfMagic, MagicShows, IsPartOfEntry, EntryShows, IsPartOfEntries, EntriesShow}

-- the end tag after the last entry, after which the end is looked for
abbrev pub EndIsWhole : Reel → Option FileEntry → HoldFileFault → List ℕ → Type 0
EndIsWhole r last faults.Read s = (s ≡ 0 ∷ []) × KeepsMagic r last None
EndIsWhole r last faults.Trailing s = (s ≡ 0 ∷ []) × KeepsMagic r last None
EndIsWhole r last _ s = ⊥

-- all entries of a holding of the reel, and the end tag after them
abbrev pub EntriesAreWhole : Version → Reel → HoldFileFault → List ℕ → Type 0
EntriesAreWhole v reel f s = (h : Contents) × (tag : List ℕ) × IsHolding h × IsStated v h × TellsMagic h.reel (file_entries h) × (h.reel ≡ reel)
    × (s ≡ entries_text v (file_entries h) ++ tag) × EndIsWhole reel (last_of (file_entries h)) f tag

-- how all entries of a holding and the end tag are read
abbrev pub ReadsEntries : Version → Reel → Contents → ReadLog → ReadLog → (from to : ℕ) → Result (Unit {0}) HoldFileFault → Type 0
ReadsEntries v reel h =
    ReadsText (λ _. entries_text v (file_entries h) ++ 0 ∷ []) (IsPartOfEntries v reel) (EntriesAreWhole v reel) (EntriesShow v reel)

-- how the next entry is read after the last one, or the end tag
abbrev pub ReadsNextEntry : Version → Reel → (last next : Option FileEntry) → ReadLog → ReadLog → (from to : ℕ) → Result (Unit {0}) HoldFileFault → Type 0
ReadsNextEntry v r last next = ReadsText (λ _. next_text v next) (IsPartOfEntry v r last) (EndIsWhole r last) (EntryShows v r last)

-- ---- the head

-- the record after a magic is one that has it, and within its limit
pub record IsReelAfter (of_profile : Bool) (r : Reel) : Type 0 where
  pub reel : IsReel r
  pub named : r.rules.is_profile ≡ of_profile
  pub fits : length r.config ≤ record_limit

-- a beginning of them that shows no fault yet
abbrev pub IsPartOfHead : Recordings → List ℕ → Type 0
IsPartOfHead recordings s = IsPartOfMagic recordings s
    ⊎ ((of_profile : Bool) × (v : Version) × (part : List ℕ) × IsMagic recordings of_profile v × (s ≡ magic of_profile v ++ part) × IsPartOfReel part)

abbrev pub HeadShows : Recordings → HoldFileFault → List ℕ → Type 0
HeadShows recordings f s = MagicShows recordings f s
    ⊎ ((of_profile : Bool) × (v : Version) × (seen : List ℕ) × IsMagic recordings of_profile v × (s ≡ magic of_profile v ++ seen) × ReelShows of_profile f seen)

-- they are whole, after which memory for the setup is wanted
abbrev pub HeadIsWhole : Recordings → HoldFileFault → List ℕ → Type 0
HeadIsWhole recordings f s =
    (of_profile : Bool) × (v : Version) × (reel : List ℕ) × IsMagic recordings of_profile v × (s ≡ magic of_profile v ++ reel) × ReelIsWhole of_profile f reel

-- ---- the whole file
