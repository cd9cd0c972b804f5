-- Long division by the parity's divisor: what holds of any divisor.
use Rattle.std.proofs.Common.{◌≡◌, ℕ, ◌+◌, ◌*◌, ◌^◌, ◌<◌, Bool, List, length, refl, lit<, lit≤}
use Rattle.std.specs.Prelude.{bit_xor}
use Rattle.std.specs.List.{fold}
use Rattle.ffv1_bits.specs.Bits.{bit_value}
use Rattle.ffv1_bits.specs.Parity.{polynomial_of, parity_divisor, divided, remainder_of, remainder_by}
use Rattle.ffv1_bits.specs.Inner.Division.{reduced_at}
use Rattle.ffv1_bits.proofs.Divisors.{IsDivisor, reduced_by_shift, divided_by_is_fold, remainder_by_is_fold, reduced_by-xor, divided_by-xor, reduced_by_low, divided_by_low, remainder_by_small, fold_by_injective}
pub use Rattle.ffv1_bits.proofs.Divisors.{polynomial_small, polynomial_injective}

pub is_divisor : IsDivisor parity_divisor
is_divisor = record { high = lit≤ tt; small = lit< tt; odd = refl }

-- one more bit comes in at the low end of a remainder
unfoldable pub shifted : ℕ → Bool → ℕ
shifted r b = reduced_at 0 (r * 2 + bit_value b)

-- a line at a high power is a line at x ^ 32, moved up
pub reduced_shift : (n q p : ℕ) → p < 2 ^ n → reduced_at n (q * 2 ^ n + p) ≡ reduced_at 0 q * 2 ^ n + p
unfolding reduced_at
reduced_shift = reduced_by_shift parity_divisor

-- Division of a whole list is division bit by bit, from any remainder on.
pub divided_is_fold : (r : ℕ) (bits : List Bool) → divided (length bits) (r * 2 ^ length bits + polynomial_of bits) ≡ fold shifted r bits
unfolding divided shifted reduced_at
divided_is_fold = divided_by_is_fold parity_divisor

pub remainder_is_fold : (bits : List Bool) → remainder_of bits ≡ fold shifted 0 bits
unfolding remainder_of remainder_by divided shifted reduced_at
remainder_is_fold = remainder_by_is_fold parity_divisor

pub reduced-xor : (k p q : ℕ) → reduced_at k (bit_xor p q) ≡ bit_xor (reduced_at k p) (reduced_at k q)
unfolding reduced_at
reduced-xor = reduced_by-xor parity_divisor

pub divided-xor : (n p q : ℕ) → divided n (bit_xor p q) ≡ bit_xor (divided n p) (divided n q)
unfolding divided
divided-xor = divided_by-xor parity_divisor

-- what has no power from x ^ 32 on stays
pub reduced_low : (k p : ℕ) → p < 2 ^ 32 → reduced_at k p ≡ p
unfolding reduced_at
reduced_low = reduced_by_low parity_divisor

pub divided_low : (n p : ℕ) → p < 2 ^ 32 → divided n p ≡ p
unfolding divided
divided_low = divided_by_low parity_divisor

pub remainder_small : (bits : List Bool) → remainder_of bits < 2 ^ 32
unfolding remainder_of remainder_by divided
remainder_small = remainder_by_small parity_divisor is_divisor

pub fold_injective : (r s : ℕ) (bits : List Bool) → fold shifted r bits ≡ fold shifted s bits → r ≡ s
unfolding shifted reduced_at
fold_injective = fold_by_injective parity_divisor is_divisor
