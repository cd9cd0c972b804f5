use Rattle.std.proofs.Common.{◌≡◌, map, take}
use Rattle.ffv1_mend.specs.Content.{content_bytes}
use Rattle.ffv1_mend.proofs.improved.lent.Given as goal

abbrev pub invariant-loop-content : goal.invariant-loop-content
invariant-loop-content l = map (λ bytes. bytes.now) l.lent.items ≡ take l.content-index (map content_bytes l.all)
