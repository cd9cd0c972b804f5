use Rattle.ffv1_weave.proofs.Common.{◌≡◌, arith, length, values_of}
use Rattle.ffv1_weave.proofs.References.{each_value}
use Rattle.ffv1_weave.proofs.Agreeing.{agree_on}
use Rattle.ffv1_weave.proofs.regions.region_from.Goals as goal

pub returns-then-start-size-clause-region : goal.returns-then-start-size-clause-region
returns-then-start-size-clause-region c =
    agree_on (values_of c.args.versions.now) c.args.size c.args.from c.first_from-start.result
    (each_value c.args.versions.now (λ version. length version ≡ c.args.size) c.requires.lengths) (omega arith) c.first_from-start.ensures.until
