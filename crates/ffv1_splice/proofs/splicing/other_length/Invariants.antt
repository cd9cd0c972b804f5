use Rattle.ffv1_splice.proofs.Common.{◌≡◌, ◌<◌, ℕ, map, length_at}
use Rattle.ffv1_splice.proofs.splicing.other_length.Given as goal

abbrev pub invariant-loop-index : goal.invariant-loop-index
invariant-loop-index l =
    (before : ℕ) → before < l.index → length_at (map (λ copy. copy.now) l.copies) before ≡ length_at (map (λ copy. copy.now) l.copies) 0
