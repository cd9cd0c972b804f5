use Rattle.ffv1_splice.proofs.Common.{◌≡◌, map, take}
use Rattle.ffv1_splice.proofs.sized.lent.Given as goal

abbrev pub invariant-loop-bytes : goal.invariant-loop-bytes
invariant-loop-bytes l = map (λ bytes. bytes.now) l.lent.items ≡ take l.bytes-index (map (λ bytes. bytes.items) l.all)
