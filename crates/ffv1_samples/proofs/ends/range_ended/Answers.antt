use Rattle.std.proofs.Common.{◌+◌, arith}
use Rattle.ffv1_bits.specs.Limits.{payload_limit}
use Rattle.ffv1_samples.proofs.Endings.{spare_small}
use Rattle.ffv1_samples.proofs.ends.range_ended.Goals as goal

pub overflow_mul-result : goal.overflow_mul-result
overflow_mul-result c =
    let few = spare_small (payload_limit + 1) c.args.after.decoder c.in-Ok.end c.requires.1 c.in-Ok.ensures in
    omega (arith, few)
