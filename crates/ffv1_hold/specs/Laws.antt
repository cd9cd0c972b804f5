-- Laws of holding files, each the contract of a public function.
use Rattle.std.specs.Prelude.{◌≡◌, ℕ, ◌++◌, ◌≤◌, List, length, Option}
use Rattle.ffv1_bits.specs.Limits.{record_limit}
use Rattle.ffv1_holding.specs.Contents.{Contents, IsHolding}
use Rattle.ffv1_hold.specs.declared.file_fault.HoldFileFault.{HoldFileFault}
use Rattle.ffv1_holding.specs.declared.recordings.Recordings.{Recordings}
use Rattle.ffv1_hold.specs.declared.version.Version.{Version}
use Rattle.ffv1_hold.specs.HoldingText.{IsTextOf, FitsInFile, file_text}
use Rattle.ffv1_hold.specs.ReadLimits.{IsReadLimitOf}
use Rattle.ffv1_hold.specs.FileFaults.{MayTake, IsPartOfFile, IsHoldingText, FileShows, IsFaultOf}
pub use Rattle.ffv1_holding.specs.Laws.{CopiesHoldTheOriginal, NearCopiesHoldTheOriginal, HeldIsFound, OriginIsACopy}

-- Two holdings with one text, of whatever version, are equal, and each holding has the text `holding_text` of version 2: so each
-- meaning has exactly one of that version.
abbrev pub OneText : Type 0
OneText = (g h : Contents) (text : List ℕ) → IsHolding g → IsHolding h → length g.reel.config ≤ record_limit → length h.reel.config ≤ record_limit
    → IsTextOf text g → IsTextOf text h → g ≡ h

-- No beginning of a holding's text shows a fault, and a whole text is no unfinished one.
abbrev pub TextShowsNoFault : Type 0
TextShowsNoFault =
    (recordings : Recordings) (text : List ℕ) → IsHoldingText recordings text
    → ((seen rest : List ℕ) (fault : HoldFileFault) → text ≡ seen ++ rest → ¬ FileShows recordings fault seen) × (¬ IsPartOfFile recordings text)

-- No beginning of an unfinished file shows a fault.
abbrev pub PartShowsNoFault : Type 0
PartShowsNoFault =
    (recordings : Recordings) (part seen rest : List ℕ) (fault : HoldFileFault) → IsPartOfFile recordings part → part ≡ seen ++ rest
    → ¬ FileShows recordings fault seen

-- A text of a holding has no fault, where it and its record are within their limits.
abbrev pub TextHasNoFault : Type 0
TextHasNoFault =
    (recordings : Recordings) (v : Version) (h : Contents) → IsHolding h → MayTake recordings h.reel → FitsInFile v h
    → (fault : HoldFileFault) → ¬ IsFaultOf recordings (file_text v h) fault

-- Each text, beside another holding or none, and each bytes that were written have exactly one read_limit.
abbrev pub OneReadLimit : Type 0
OneReadLimit = (v : Version) (h : Contents) (other : Option Contents) (bytes : List ℕ) → (read_limit : ℕ) × IsReadLimitOf v h other bytes read_limit
    × ((also : ℕ) → IsReadLimitOf v h other bytes also → also ≡ read_limit)

-- An input has one fault at most.
abbrev pub OneFault : Type 0
OneFault = (recordings : Recordings) (input : List ℕ) (f g : HoldFileFault) → IsFaultOf recordings input f → IsFaultOf recordings input g → f ≡ g

-- No two faults are shown by beginnings of one input, however long they are.
abbrev pub OneShownFault : Type 0
OneShownFault =
    (recordings : Recordings) (input seen rest others rest' : List ℕ) (f g : HoldFileFault) → input ≡ seen ++ rest → input ≡ others ++ rest'
    → FileShows recordings f seen → FileShows recordings g others → f ≡ g
