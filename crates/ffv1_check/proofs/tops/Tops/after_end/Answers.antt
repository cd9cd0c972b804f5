use Rattle.std.proofs.Common.{refl}
use Rattle.matroska_parts.specs.declared.parts.Part.TheVariants as part
use Rattle.ffv1_check.proofs.TopSteps.{tops_more, kept, kept_segment}
use Rattle.ffv1_check.proofs.tops.Tops.after_end.Goals as goal

pub returns : goal.returns
returns c = λ parts stand.
    tops_more parts (part.End c.args.closing.now) c.args.self.now _ stand (kept c.args.self.now.begun) (kept c.args.self.now.has_ebml)
    (kept_segment c.args.self.now.segment) refl c.crc32s_with.ensures
