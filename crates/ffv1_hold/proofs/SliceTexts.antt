-- Slices after their tags are read in one way only, and show one fault at most.
use Rattle.ffv1_hold.proofs.Common.{◌≡◌, ℕ, ◌<◌, ◌≤◌, ◌^◌, ◌==◌, List, ◌++◌, length, Option, refl, sym, ap, ◌∙◌, subst, inl, inr, arith, append_assoc, length-append, ◌⊎◌, slice_limit, Reel, Some, IsSliceOf, HoldFileFault, Entry, FileEntry, be2, be4, slice_text, Follows, KeepsMagic, IsPartOfSlice, IsWrong, SliceShows, IsEntryInPlace}
use Rattle.ffv1_hold.specs.declared.file_fault.HoldFileFault.TheVariants as faults
use Rattle.ffv1_hold.proofs.Bodies.{length-be2, length-be4}
use Rattle.ffv1_hold.proofs.NumberTexts.{same_front, same_back, be2_same, number_same, after_number}

-- its parts, before more bytes
pub slice_parts : (e : Entry) (x : List ℕ) → slice_text e ++ x ≡ be2 e.0 ++ (be4 (length e.1) ++ (e.1 ++ x))
unfolding slice_text
slice_parts e x = append_assoc (be2 e.0 ++ be4 (length e.1)) e.1 x ∙ append_assoc (be2 e.0) (be4 (length e.1)) (e.1 ++ x)

module _ (t u : ℕ) (m n : ℕ) (x y : List ℕ) (e : be2 t ++ (be4 m ++ x) ≡ be2 u ++ (be4 n ++ y)) where
  tile_bytes : be2 t ≡ be2 u
  tile_bytes = same_front (be2 t) (be2 u) (be4 m ++ x) (be4 n ++ y) (length-be2 t ∙ sym (length-be2 u)) e

  after_tile : be4 m ++ x ≡ be4 n ++ y
  after_tile = same_back (be2 t) (be2 u) (be4 m ++ x) (be4 n ++ y) (length-be2 t ∙ sym (length-be2 u)) e

  same_tile_number : t < 2 ^ 16 → u < 2 ^ 16 → t ≡ u
  same_tile_number p q = be2_same t u p q tile_bytes

  same_length_number : m < 2 ^ 32 → n < 2 ^ 32 → m ≡ n
  same_length_number p q = number_same m n x y after_tile p q

  same_rest : x ≡ y
  same_rest = after_number m n x y after_tile

-- a slice whose tile takes two bytes, and that is within its limit
abbrev pub Fits : Entry → Type 0
Fits e = (e.0 < 2 ^ 16) × (length e.1 ≤ slice_limit)

-- two slices that begin the same bytes are the same
module _ (e f : Entry) (x y : List ℕ) (e_fits : Fits e) (f_fits : Fits f) (same : slice_text e ++ x ≡ slice_text f ++ y) where
  parts : be2 e.0 ++ (be4 (length e.1) ++ (e.1 ++ x)) ≡ be2 f.0 ++ (be4 (length f.1) ++ (f.1 ++ y))
  parts = sym (slice_parts e x) ∙ same ∙ slice_parts f y

  long : length e.1 ≡ length f.1
  long = grind (arith, same_length_number, parts)

  pub same_slice : e ≡ f
  same_slice = grind (arith, same_tile_number, parts, same_front, long, same_rest)

  pub after_slice : x ≡ y
  after_slice = same_back e.1 f.1 x y long (same_rest e.0 f.0 (length e.1) (length f.1) (e.1 ++ x) (f.1 ++ y) parts)

-- a whole slice is not cut by the end
pub slice_cut : (e : Entry) (x : List ℕ) → length e.1 ≤ slice_limit → IsPartOfSlice (slice_text e ++ x) → ⊥
slice_cut e x fits (inl short) = grind (arith, long, slice_parts, length-append, length-be2, length-be4)
slice_cut e x fits (inr part) = grind (arith, slice_parts, append_assoc, same_length_number, same_rest, length-append)

-- ---- what shows a fault, by its kind

abbrev ShowsLength : HoldFileFault → List ℕ → Type 0
ShowsLength f s = (tile n : ℕ) × (f ≡ faults.TooLong) × (s ≡ be2 tile ++ be4 n) × (slice_limit < n) × (n < 2 ^ 32)

abbrev ShowsWrong : Reel → Option FileEntry → HoldFileFault → List ℕ → Type 0
ShowsWrong r last f s = (e : Entry) × (s ≡ slice_text e) × Fits e × IsWrong r last e f

slice_kinds : (r : Reel) (last : Option FileEntry) (f : HoldFileFault) (s : List ℕ) → SliceShows r last f s
    → ShowsLength f s ⊎ ShowsWrong r last f s
slice_kinds r last faults.TooLong s (tile, n, split, over, small) = inl (tile, n, refl, split, over, small)
slice_kinds r last faults.NotASlice s (e, split, small, fits, wrong) = inr (e, split, (small, fits), wrong)
slice_kinds r last faults.Order s (e, split, small, fits, wrong) = inr (e, split, (small, fits), wrong)
slice_kinds r last faults.Tag s shown = absurd shown.4
slice_kinds r last faults.Magic s (e, split, small, fits, wrong) = inr (e, split, (small, fits), wrong)
slice_kinds r last (faults.Setup f) s shown = absurd shown.4
slice_kinds r last faults.Truncated s shown = absurd shown.4
slice_kinds r last faults.Trailing s shown = absurd shown.4
slice_kinds r last faults.Read s shown = absurd shown.4
slice_kinds r last faults.Write s shown = absurd shown.4
slice_kinds r last faults.Memory s shown = absurd shown.4
slice_kinds r last faults.OtherReel s shown = absurd shown.4

-- what an entry is wrong in
wrong_kinds : (r : Reel) (last : Option FileEntry) (e : Entry) (f : HoldFileFault) → IsWrong r last e f
    → ((f ≡ faults.NotASlice) × (¬ IsSliceOf r.rules e.1 (e.0 == 0) e.0))
    ⊎ (((f ≡ faults.Order) × IsSliceOf r.rules e.1 (e.0 == 0) e.0 × (¬ Follows last e))
    ⊎ ((f ≡ faults.Magic) × IsSliceOf r.rules e.1 (e.0 == 0) e.0 × Follows last e × (¬ KeepsMagic r last (Some e))))
wrong_kinds r last e faults.NotASlice wrong = inl (refl, wrong)
wrong_kinds r last e faults.Order wrong = inr (inl (refl, wrong.0, wrong.1))
wrong_kinds r last e faults.Magic wrong = inr (inr (refl, wrong.0, wrong.1, wrong.2))
wrong_kinds r last e _ wrong = absurd wrong

wrong_one : (r : Reel) (last : Option FileEntry) (e : Entry) (f g : HoldFileFault) → IsWrong r last e f → IsWrong r last e g → f ≡ g
wrong_one r last e f g a b = grind (arith, wrong_kinds)

-- a length over the limit stands before no whole slice
length_apart : (tile n : ℕ) (e : Entry) (y z : List ℕ) → slice_limit < n → n < 2 ^ 32 → length e.1 ≤ slice_limit
    → (be2 tile ++ be4 n) ++ y ≡ slice_text e ++ z → ⊥
length_apart tile n e y z over small fits same = grind (arith, append_assoc, slice_parts, same_length_number)

-- and is no part of a slice
long_cut : (tile n : ℕ) (y : List ℕ) → slice_limit < n → n < 2 ^ 32 → IsPartOfSlice ((be2 tile ++ be4 n) ++ y) → ⊥
long_cut tile n y over small (inl short) = grind (arith, length-append, length-be2, length-be4)
long_cut tile n y over small (inr (t, m, bytes, split, few, cut)) = grind (arith, append_assoc, same_length_number)

module _ (r : Reel) (last : Option FileEntry) where
  -- a slice that is right shows no fault
  pub slice_none : (e : Entry) (x y : List ℕ) → IsEntryInPlace r last e → (f : HoldFileFault) (s : List ℕ) → slice_text e ++ x ≡ s ++ y
      → SliceShows r last f s → ⊥
  slice_none e x y right f s same shown = grind (arith, slice_kinds, length_apart, same_slice, wrong_kinds)

  -- two faults of one slice
  pub slice_one : (f g : HoldFileFault) (s t y z : List ℕ) → s ++ y ≡ t ++ z → SliceShows r last f s → SliceShows r last g t → f ≡ g
  slice_one f g s t y z same a b = grind (arith, slice_kinds, length_apart, same_slice, wrong_one)

  -- no beginning of a part of a slice shows one
  pub part_slice_none : (f : HoldFileFault) (p s y : List ℕ) → p ≡ s ++ y → IsPartOfSlice p → SliceShows r last f s → ⊥
  part_slice_none f p s y same part shown = elim (slice_kinds r last f s shown) [
    | inl w ↦ long_cut w.0 w.1 y w.4 w.5 (subst IsPartOfSlice (same ∙ ap (λ q. q ++ y) w.3) part)
    | inr w ↦ slice_cut w.0 y w.2.1 (subst IsPartOfSlice (same ∙ ap (λ q. q ++ y) w.1) part)
  ]
