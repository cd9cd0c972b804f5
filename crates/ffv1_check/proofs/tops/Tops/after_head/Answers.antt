use Rattle.std.proofs.Common.{refl}
use Rattle.matroska_parts.specs.declared.parts.Part.TheVariants as part
use Rattle.ffv1_check.proofs.TopSteps.{tops_more, true_with, kept}
use Rattle.ffv1_check.proofs.tops.Tops.after_head.Goals as goal

pub returns : goal.returns
returns c = λ parts stand.
    tops_more parts (part.Begin c.args.opening.now) c.args.self.now _ stand (true_with c.args.self.now.begun) c.ebml_with.ensures c.segment_with.ensures refl
    (λ element. kept _)
