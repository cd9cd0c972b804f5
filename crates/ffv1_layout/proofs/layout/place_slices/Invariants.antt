use Rattle.std.proofs.Common.{map, Bor, List, ℕ}
use Rattle.ffv1_layout.specs.Inner.Placing.{ArePlaced}
use Rattle.ffv1_layout.proofs.layout.place_slices.Given as goal

-- the slices so far are placed
abbrev pub invariant-loop-place : goal.invariant-loop-place
invariant-loop-place l = ArePlaced l.recording (map (λ (slice : Bor (List ℕ)). slice.now) l.slices) l.place l.placed_slices.items
