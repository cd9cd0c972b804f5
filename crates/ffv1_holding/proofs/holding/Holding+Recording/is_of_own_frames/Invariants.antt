use Rattle.std.proofs.Common.{ℕ, ◌<◌, List, true, get_or}
use Rattle.ffv1_range.specs.TileHeaders.{rules_of}
use Rattle.ffv1_slice.specs.Slices.{IsSliceOf}
use Rattle.ffv1_holding.specs.Sets as set
use Rattle.ffv1_holding.proofs.holding.Holding+Recording.is_of_own_frames.Given as goal

-- the slices passed so far are slices by the record's own rules
abbrev pub invariant-loop-place : goal.invariant-loop-place
invariant-loop-place l = (i : ℕ) (d : List ℕ) → i < l.place → IsSliceOf (rules_of l.recording) (get_or (set.items l.firsts) i d) true 0
