-- Sums modulo 2^n, and of entries of tables.
use Rattle.std.specs.Prelude.{◌≡◌, ℕ, ◌+◌, ◌*◌, ◌^◌, ◌<◌, ℤ, pos, ◌+ℤ◌}
use Rattle.ffv1_plane.specs.Samples.{SamplesAbout, modular_difference}

-- a sum with the entries of tables 2 to 4 at the samples about another, where entry t i is entry i of table t
abbrev pub with_far_entries : (ℕ → ℕ → ℤ) → SamplesAbout → ℤ → ℤ
with_far_entries entry n first =
    first +ℤ entry 2 (modular_difference n.top n.top_right) +ℤ entry 3 (modular_difference n.left_of_left n.left) +ℤ entry 4 (modular_difference n.top_of_top n.top)

-- result is prediction and change modulo 2^n
pub record IsSumModulo (n prediction : ℕ) (change : ℤ) (result : ℕ) : Type 0 where
  pub more : ℕ
  pub less : ℕ
  pub small : result < 2 ^ n
  pub sum : (pos prediction +ℤ change) +ℤ pos (more * 2 ^ n) ≡ pos (less * 2 ^ n + result)
