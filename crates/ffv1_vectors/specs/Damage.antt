-- Damage to the bits of some bytes.
use Rattle.std.specs.Prelude.{◌≡◌, ℕ, ◌+◌, ◌-◌, ◌<◌, Bool, false, not, List, slice_index_or, if◌then◌else◌}
use Rattle.ffv1_bits.specs.Bits.{has_bit}

-- The 32 bits from a place on are those that there were, each inverted where the mask, its highest bit first, has a 1.
abbrev pub IsBurst : List Bool → ℕ → ℕ → List Bool → Type 0
IsBurst bits at mask damaged =
    (k : ℕ) → k < 32
    → slice_index_or damaged (at + k) false
    ≡ (if has_bit mask (31 - k) then not (slice_index_or bits (at + k) false) else slice_index_or bits (at + k) false)
