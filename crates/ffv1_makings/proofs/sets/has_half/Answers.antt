use Rattle.std.proofs.Common.{◌∙◌, sym, arith}
use Rattle.ffv1_makings.proofs.TableSets.{half_entry-is}
use Rattle.ffv1_makings.proofs.sets.has_half.Goals as goal

pub returns : goal.returns
returns c = λ _ k h. c.loop-index.invariant k (omega arith) ∙ sym (half_entry-is c.args.scale c.args.runs.now k h)
