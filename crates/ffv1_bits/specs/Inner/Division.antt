-- One line of the long division by the parity's divisor.
use Rattle.std.specs.Prelude.{ℕ}
use Rattle.ffv1_bits.specs.Parity.{parity_divisor, reduced_by}

-- where p has x ^ (32 + k), the divisor times x ^ k is taken away
unfoldable pub reduced_at : ℕ → ℕ → ℕ
reduced_at k p = reduced_by parity_divisor k p
