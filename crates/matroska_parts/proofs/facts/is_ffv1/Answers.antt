use Rattle.matroska_parts.proofs.FactSteps.{not_ffv1}
use Rattle.matroska_parts.proofs.facts.is_ffv1.Goals as goal

pub returns-in-None : goal.returns-in-None
returns-in-None c = not_ffv1 c.args.track.now c.in-None.ensures
