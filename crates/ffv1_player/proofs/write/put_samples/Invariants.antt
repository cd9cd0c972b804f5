use Rattle.std.proofs.Common.{◌≡◌, ◌*◌, ◌≤◌, take}
use Rattle.ffv1_player.specs.Written.{plane_bytes}
use Rattle.ffv1_player.proofs.write.put_samples.Given as goal

-- The samples so far are bytes.
abbrev pub invariant-loop-place : goal.invariant-loop-place
invariant-loop-place l = (take l.count l.block ≡ plane_bytes l.depth (take l.place l.samples)) × (l.count ≤ 2 * l.place)
