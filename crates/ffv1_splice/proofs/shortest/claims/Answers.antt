use Rattle.ffv1_splice.proofs.ShortestSteps.{claims_if}
use Rattle.ffv1_splice.proofs.shortest.claims.Goals as goal

pub returns-then-from-size : goal.returns-then-from-size
returns-then-from-size c = claims_if c.args.copy.now c.args.start c.args.end c.slice_start.result c.eq.result c.slice_start.ensures.cut c.eq.ensures
