-- The invariant of a range encoder.
use Rattle.std.specs.Prelude.{ℕ, ◌+◌, ◌≤◌}

-- The range is wide enough for both bits, and the low end, the carry included, has 17 bits.
pub record IsEncoder (low range : ℕ) : Type 0 where
  pub wide : 256 ≤ range
  pub narrow : range ≤ 65280
  pub short : low + range ≤ 131072
