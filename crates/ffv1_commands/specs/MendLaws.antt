-- The laws of the command `mend`, for a list and copies that are read as they were written: what it makes is what becomes of the stretches of
-- the copies, however these are ordered, and the original file where all is good and the original of each stretch is known again.
use Rattle.std.specs.Prelude.{ℕ, ◌≡◌, true, List, [], length, map, Option, Some}
use Rattle.std.specs.List.{AllZip, flat_map, list_all}
use Rattle.ffv1_mend.specs.Laws.{IsVouched}
use Rattle.ffv1_mend.specs.Mended.{MendedValue, is_good}
use Rattle.ffv1_stretches.specs.Cells.{cells_of, versions_in}
use Rattle.ffv1_stretches.specs.Laws.{AreStretchMends, IsReordered, HaveOriginals}
use Rattle.ffv1_stretches.specs.Lines.{mend_text}
use Rattle.ffv1_stretches.specs.Listed.{AreStretches}
use Rattle.ffv1_stretches.specs.Passes.{bytes_of}
use Rattle.ffv1_stretches.specs.Stretches.{StretchValue}
use Rattle.ffv1_commands.specs.Commands.{IsNoFaultOfBytes}
use Rattle.ffv1_commands.specs.MendText.{MendsFiles, MendStops}
use Rattle.ffv1_commands.specs.SpliceLaws.{Made}
use Rattle.ffv1_commands.specs.declared.fault.CliFault.{CliFault}

-- By a list with this text the command makes this of copies with these bytes.
abbrev pub MendsTo : List ℕ → List (List ℕ) → Made → Type 0
MendsTo list copies made = MendsFiles (Some list) (map Some copies) (Some []) (Some made.file) (Some []) (Some made.printed) made.returned

-- What is made is what becomes of these stretches of the copies.
pub record IsMadeOfStretches (copies : List (List ℕ)) (stretches : List StretchValue) (mended : List MendedValue) (made : Made) : Type 0 where
  pub outcomes : AreStretchMends copies stretches mended
  pub file : made.file ≡ bytes_of mended
  pub printed : made.printed ≡ mend_text 1 copies stretches mended
  pub returned : made.returned ≡ list_all (λ one. is_good one.state) mended

-- The command makes the original of the copies where it returns `true`, and is refused only because reading, writing or memory failed.
pub record GiveOnlyIfGood (list : List ℕ) (copies : List (List ℕ)) (original : List ℕ) : Type 0 where
  pub made : (made : Made) → MendsTo list copies made → made.returned ≡ true → made.file ≡ original
  pub refused : (out_before out_after printed_before printed_after : Option (List ℕ)) (fault : CliFault)
      → MendStops (Some list) (map Some copies) out_before out_after printed_before printed_after fault → IsNoFaultOfBytes fault

-- ---- laws

-- What the command makes is what becomes of the stretches that the list lists.
abbrev pub ListedIsMade : Type 0
ListedIsMade =
    (list : List ℕ) (copies : List (List ℕ)) (stretches : List StretchValue) (made : Made) → AreStretches (length copies) list stretches
    → MendsTo list copies made → (mended : List MendedValue) × IsMadeOfStretches copies stretches mended made

-- However the copies are ordered, and the places and the copy FROM of each line with them, the same becomes of each stretch.
abbrev pub AnyOrderMakesOneFile : Type 0
AnyOrderMakesOneFile =
    (list other_list : List ℕ) (copies others : List (List ℕ)) (stretches reordered : List StretchValue) (one other : Made)
    → AreStretches (length copies) list stretches → AreStretches (length others) other_list reordered
    → AllZip (IsReordered copies others) stretches reordered → MendsTo list copies one → MendsTo other_list others other
    → (one.file ≡ other.file) × (one.returned ≡ other.returned)
    × ((mended : List MendedValue) × IsMadeOfStretches copies stretches mended one × IsMadeOfStretches others reordered mended other)

-- Where the command returns `true`, what becomes of each stretch is vouched for.
abbrev pub TrueIsVouched : Type 0
TrueIsVouched =
    (list : List ℕ) (copies : List (List ℕ)) (stretches : List StretchValue) (made : Made) → AreStretches (length copies) list stretches
    → MendsTo list copies made → made.returned ≡ true
    → (mended : List MendedValue) × IsMadeOfStretches copies stretches mended made
    × AllZip (λ stretch one. IsVouched stretch.kind (versions_in (cells_of copies stretch)) one.bytes) stretches mended

-- Where the original of each stretch is known again, the copies give the originals, one after the other.
abbrev pub MendGivesTheOriginal : Type 0
MendGivesTheOriginal =
    (list : List ℕ) (copies : List (List ℕ)) (stretches : List StretchValue) (mended : List MendedValue) (originals : List (List ℕ))
    → AreStretches (length copies) list stretches → AreStretchMends copies stretches mended → HaveOriginals copies stretches mended originals
    → GiveOnlyIfGood list copies (flat_map (λ original. original) originals)
