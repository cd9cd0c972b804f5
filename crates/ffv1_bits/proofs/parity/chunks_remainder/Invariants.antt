use Rattle.std.proofs.Common.{◌≡◌, ℕ, List, ◌++◌, take}
use Rattle.std.specs.List.{concat}
use Rattle.ffv1_bits.specs.Bits.{bits_of}
use Rattle.ffv1_bits.specs.Parity.{remainder_of}
use Rattle.ffv1_bits.proofs.parity.chunks_remainder.Given as goal

abbrev pub invariant-loop-chunk : goal.invariant-loop-chunk
invariant-loop-chunk l =
    (front : List ℕ) → l.left ≡ remainder_of (bits_of front) → l.register ≡ remainder_of (bits_of (front ++ concat (take l.chunk-index l.chunks)))
