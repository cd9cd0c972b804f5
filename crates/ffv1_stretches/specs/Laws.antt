-- Laws of what becomes of the stretches of a file.
use Rattle.std.specs.Prelude.{ℕ, ◌≡◌, ◌++◌, ◌≤◌, true, List, [], ◌∷◌, None, length, replicate, slice_index_or}
use Rattle.std.specs.List.{AllZip, flat_map, list_all, zip}
use Rattle.std.specs.List.Sorted.{IsPermutation}
use Rattle.ffv1_mend.specs.Mended.{MendedValue, is_good}
use Rattle.ffv1_mend.specs.Laws.{IsVouched, HasOriginal}
use Rattle.ffv1_stretches.specs.Stretches.{StretchValue, AreInOrder, ends_of}
use Rattle.ffv1_stretches.specs.Cells.{cells_of, versions_in, IsStretchMend}
use Rattle.ffv1_stretches.specs.Passes.{bytes_of}

-- What becomes of the stretches of copies that are these files.
abbrev pub AreStretchMends : List (List ℕ) → List StretchValue → List MendedValue → Type 0
AreStretchMends files stretches mended = AllZip (λ stretch one. IsStretchMend (cells_of files stretch) stretch one) stretches mended

-- ---- the copies in another order

-- The same stretch of the same copies in another order: its places go with the copies, and its copy FROM is the same one.
pub record IsReordered (files others : List (List ℕ)) (stretch other : StretchValue) : Type 0 where
  pub kind' : stretch.kind ≡ other.kind
  pub size' : stretch.size ≡ other.size
  pub parts' : stretch.parts ≡ other.parts
  pub copies : IsPermutation (zip files stretch.places) (zip others other.places)
  pub from' : slice_index_or (zip files stretch.places) stretch.from ([], None) ≡ slice_index_or (zip others other.places) other.from ([], None)

-- Then the same becomes of the stretches.
abbrev pub AnyOrderMends : Type 0
AnyOrderMends =
    (files others : List (List ℕ)) (stretches reordered : List StretchValue) (mended again : List MendedValue)
    → AllZip (IsReordered files others) stretches reordered → AreStretchMends files stretches mended → AreStretchMends others reordered again → mended ≡ again

-- ---- what vouches

-- What is good is vouched for.
abbrev pub GoodStretchesAreVouched : Type 0
GoodStretchesAreVouched =
    (files : List (List ℕ)) (stretches : List StretchValue) (mended : List MendedValue) → AreStretchMends files stretches mended
    → AllZip (λ stretch one. is_good one.state ≡ true → IsVouched stretch.kind (versions_in (cells_of files stretch)) one.bytes) stretches mended

-- ---- an original

-- What is asked of the versions of each stretch, so that its original is known again.
abbrev pub HaveOriginals : List (List ℕ) → List StretchValue → List MendedValue → (originals : List (List ℕ)) → Type 0
HaveOriginals files (stretch ∷ stretches) (one ∷ mended) (original ∷ originals) =
    HasOriginal stretch.kind original (versions_in (cells_of files stretch)) stretch.parts one × HaveOriginals files stretches mended originals
HaveOriginals files [] [] [] = Unit {0}
HaveOriginals files _ _ _ = ⊥

-- Then, where all stretches are good, OUT is the original file.
abbrev pub OriginalFileIsMended : Type 0
OriginalFileIsMended =
    (files : List (List ℕ)) (stretches : List StretchValue) (mended : List MendedValue) (originals : List (List ℕ)) → AreStretchMends files stretches mended
    → HaveOriginals files stretches mended originals → list_all (λ one. is_good one.state) mended ≡ true
    → bytes_of mended ≡ flat_map (λ original. original) originals

-- ---- what stands after the last stretches

-- each file is a front of the other
abbrev pub AreFronts : List (List ℕ) → List (List ℕ) → Type 0
AreFronts files wholes = AllZip (λ file whole. (rest : List ℕ) × (whole ≡ file ++ rest)) files wholes

-- What stands in a copy after its last stretch changes nothing.
abbrev pub FrontsAreEnough : Type 0
FrontsAreEnough =
    (files wholes : List (List ℕ)) (stretches : List StretchValue) (mended : List MendedValue)
    → AreInOrder (length files) (replicate (length files) 0) stretches → AllZip (λ end file. end ≤ length file) (ends_of (length files) stretches) files
    → AreFronts files wholes → AreStretchMends files stretches mended → AreStretchMends wholes stretches mended
