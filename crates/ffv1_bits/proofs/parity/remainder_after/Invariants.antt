use Rattle.std.proofs.Common.{◌≡◌, ℕ, List, ◌/◌, ◌++◌, length, take}
use Rattle.std.specs.List.{concat}
use Rattle.std.specs.Simd.{first_chunks}
use Rattle.ffv1_bits.specs.Bits.{bits_of}
use Rattle.ffv1_bits.specs.Parity.{remainder_of}
use Rattle.ffv1_bits.proofs.parity.remainder_after.Given as goal

abbrev pub invariant-loop-byte : goal.invariant-loop-byte
invariant-loop-byte l =
    (front : List ℕ) → l.left ≡ remainder_of (bits_of front)
    → l.register ≡ remainder_of (bits_of ((front ++ concat (first_chunks 16 (length l.bytes / 16) l.bytes)) ++ take l.byte-index l.rest))
