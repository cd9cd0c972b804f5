use Rattle.std.proofs.Common.{◌≡◌, take, map}
use Rattle.ffv1_commands.proofs.splice.spliced_of.Given as goal

-- the bytes of the copies so far
abbrev pub invariant-loop-copy : goal.invariant-loop-copy
invariant-loop-copy l = map (λ slice. slice.now) l.slices.items ≡ take l.copy-index (map (λ copy. copy.items) l.copies)
