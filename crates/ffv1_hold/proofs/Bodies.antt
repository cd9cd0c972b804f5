-- The parts of a slice after its tag.
use Rattle.ffv1_hold.proofs.Common.{◌≡◌, ℕ, ◌<◌, ◌≤◌, List, ◌++◌, length, arith, inl, inr, refl, ap, length-append, slice_limit, Entry, be2, be4, slice_text, IsPartOfSlice}

pub length-be2 : (n : ℕ) → length (be2 n) ≡ 2
unfolding be2
length-be2 n = refl

pub length-be4 : (n : ℕ) → length (be4 n) ≡ 4
unfolding be4
length-be4 n = refl

pub part_of_length : (tile : ℕ) (s : List ℕ) → length s < 4 → IsPartOfSlice (be2 tile ++ s)
part_of_length tile s h = inl (omega (arith, length-append (be2 tile) s, length-be2 tile))

pub part_of_bytes : (tile n : ℕ) (s : List ℕ) → n ≤ slice_limit → length s < n → IsPartOfSlice (be2 tile ++ be4 n ++ s)
part_of_bytes tile n s fits h = inr (tile, n, s, refl, fits, h)

pub slice_text-of : (e : Entry) (n : ℕ) → n ≡ length e.1 → be2 e.0 ++ be4 n ++ e.1 ≡ slice_text e
unfolding slice_text
slice_text-of e n h = ap (λ k. be2 e.0 ++ be4 k ++ e.1) h
