-- Symbols read from left to right, with the first fault that is met (RFC 9043, section 3.8.1.2).
use Rattle.std.specs.Prelude.{◌≡◌, ◌↔◌, ◌<◌, ◌≤◌, ◌^◌, ℕ, zero, suc, ◌+◌, ◌*◌, List, Ok, min, ℤ, pos, neg_ℤ, unsigned_abs, if◌then◌else◌}
use Rattle.ffv1_bits.specs.Bits.{bit_value}
use Rattle.ffv1_range.specs.Coding.{Mode, Place, IsRangeRun}
use Rattle.ffv1_range.specs.Forms.{Form, ◌>>=◌, giving, refusing, slot_form}
use Rattle.ffv1_range.specs.Symbols.{symbol_bits, signed_symbol_bits}
use Rattle.ffv1_range.specs.declared.coding.RangeFault.{RangeFault}
use Rattle.ffv1_range.specs.declared.coding.RangeFault.TheVariants.{SymbolTooLong}

-- the exponent, of which e ones were read and n more are allowed
unfoldable pub exponent_form : ℕ → ℕ → Form (List ℕ) ℕ RangeFault
exponent_form zero e = refusing SymbolTooLong
exponent_form (suc n) e = slot_form (1 + min e 9) >>= λ more. if more then exponent_form n (e + 1) else giving e

-- n more bits of a magnitude that is a so far
unfoldable pub low_form : ℕ → ℕ → Form (List ℕ) ℕ RangeFault
low_form zero a = giving a
low_form (suc n) a = slot_form (22 + min n 9) >>= λ bit. low_form n (2 * a + bit_value bit)

-- an unsigned symbol
unfoldable pub symbol_form : Form (List ℕ) ℕ RangeFault
symbol_form = slot_form 0 >>= λ is_zero. if is_zero then giving 0 else (exponent_form 32 0 >>= λ e. low_form e 1)

-- a signed symbol whose magnitude has at most n bits: its exponent stays under n
unfoldable pub signed_form_within : ℕ → Form (List ℕ) ℤ RangeFault
signed_form_within n =
    slot_form 0 >>= λ is_zero. if is_zero then giving (pos 0) else (
    exponent_form n 0 >>= λ e. low_form e 1 >>= λ a. slot_form (11 + min e 10) >>= λ is_negative.
    giving (if is_negative then neg_ℤ (pos a) else pos a))

-- a signed symbol of any magnitude
abbrev pub signed_symbol_form : Form (List ℕ) ℤ RangeFault
signed_symbol_form = signed_form_within 32

-- ---- laws

-- A symbol is read where its bits are coded, and nowhere else.
abbrev pub SymbolIsSpelled : Type 0
SymbolIsSpelled =
    (mode : Mode) (p q : Place) (a : ℕ) → (symbol_form mode p ≡ Ok (a, q)) ↔ ((a < 2 ^ 32) × IsRangeRun mode p (symbol_bits a) q)

abbrev pub SignedSymbolIsSpelled : Type 0
SignedSymbolIsSpelled =
    (n : ℕ) → n ≤ 32 → (mode : Mode) (p q : Place) (z : ℤ)
    → (signed_form_within n mode p ≡ Ok (z, q)) ↔ ((unsigned_abs z < 2 ^ n) × IsRangeRun mode p (signed_symbol_bits z) q)
