-- What is predicted of a sample depends on the samples before it alone.
use Rattle.std.proofs.Common.{◌≡◌, ℕ, zero, suc, ◌+◌, ◌-◌, ◌*◌, ◌%◌, ◌/◌, ◌<◌, ◌≤◌, false, eqb, min, List, get_or, refl, ap, arith, inl, inr, ⊎_elim}
use Rattle.std.proofs.lemmas.Bool.{cases_lt, lt-ltb, le-ltb}
use Rattle.std.proofs.lemmas.Nat.{div-add-mod'}
use Rattle.std.proofs.Math.Nat.{mul-le-mul_right}
use Rattle.ffv1_plane.specs.Samples.{sample_inside, sample_at, neighbours_at}
use Rattle.ffv1_plane.specs.Inner.Progress.{IsBefore}

module _ (w s : ℕ) (some : 0 < w) (xs ys : List ℕ) (same : (j : ℕ) → j < s → get_or xs j 0 ≡ get_or ys j 0) where
  inside_same : (column row : ℕ) → (2 ≤ row → (row - 2) * w + (column - 2) < s) → sample_inside w xs column row ≡ sample_inside w ys column row
  unfolding sample_inside
  inside_same column row before = ⊎_elim
      (λ above. rw (lt-ltb row 2 above) refl)
      (λ below. rw (le-ltb row 2 below) (same _ (before below)))
      (cases_lt row 2)

  -- a row above that of s
  above_same : (column row : ℕ) → row ≤ s / w + 1 → column ≤ w + 1 → sample_inside w xs column row ≡ sample_inside w ys column row
  above_same column row high wide = inside_same column row (λ two.
      let whole : s / w * w + s % w ≡ s = div-add-mod' s w in
      let less : row - 2 + 1 ≤ s / w = omega arith in
      let rows : (row - 2 + 1) * w ≤ s / w * w = mul-le-mul_right w less in
      omega (arith, whole, rows))

  -- the row of s, before s
  beside_same : (column : ℕ) → 2 ≤ column → column ≤ s % w + 1 → sample_inside w xs column (s / w + 2) ≡ sample_inside w ys column (s / w + 2)
  beside_same column two before = inside_same column (s / w + 2) (λ _.
      let whole : s / w * w + s % w ≡ s = div-add-mod' s w in
      let row : s / w + 2 - 2 ≡ s / w = omega arith in
      let rows : (s / w + 2 - 2) * w ≡ s / w * w = ap (λ k. k * w) row in
      omega (arith, whole, rows))

  pub at_same : (column row : ℕ) → IsBefore w s column row → sample_at w xs column row ≡ sample_at w ys column row
  unfolding sample_at
  at_same zero row near = refl
  at_same (suc zero) row near = above_same 2 (row - 1) (⊎_elim (λ a. omega arith) (λ b. omega arith) near) (omega arith)
  at_same (suc (suc column)) row near =
      let no : eqb (suc (suc column)) 0 ≡ false = grind arith in
      let nor : eqb (suc (suc column)) 1 ≡ false = grind arith in
      rw (no, nor) (⊎_elim
      (λ a. above_same (min (suc (suc column)) (w + 1)) row a (omega arith))
      (λ b.
      let small : s % w < w = omega arith in
      let stays : min (suc (suc column)) (w + 1) ≡ suc (suc column) = omega arith in
      let r : row ≡ s / w + 2 = b.0 in
      rw (stays, r) (beside_same (suc (suc column)) (omega arith) b.1))
      near)

  pub neighbours_same : neighbours_at w xs s ≡ neighbours_at w ys s
  unfolding neighbours_at
  neighbours_same =
      let left : sample_at w xs (s % w + 1) (s / w + 2) ≡ sample_at w ys (s % w + 1) (s / w + 2) = at_same _ _ (inr (refl, omega arith)) in
      let top : sample_at w xs (s % w + 2) (s / w + 1) ≡ sample_at w ys (s % w + 2) (s / w + 1) = at_same _ _ (inl (omega arith)) in
      let top_left : sample_at w xs (s % w + 1) (s / w + 1) ≡ sample_at w ys (s % w + 1) (s / w + 1) = at_same _ _ (inl (omega arith)) in
      let top_right : sample_at w xs (s % w + 3) (s / w + 1) ≡ sample_at w ys (s % w + 3) (s / w + 1) = at_same _ _ (inl (omega arith)) in
      let left_of_left : sample_at w xs (s % w) (s / w + 2) ≡ sample_at w ys (s % w) (s / w + 2) = at_same _ _ (inr (refl, omega arith)) in
      let top_of_top : sample_at w xs (s % w + 2) (s / w) ≡ sample_at w ys (s % w + 2) (s / w) = at_same _ _ (inl (omega arith)) in
      cc
