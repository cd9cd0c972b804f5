use Rattle.matroska_parts.proofs.OpeningSteps.{matroska_by, no_matroska}
use Rattle.matroska_parts.proofs.openings.is_matroska.Goals as goal

pub returns-in-Some : goal.returns-in-Some
returns-in-Some c =
    matroska_by c.args.content.now c.in-Some.text.now c.is_matroska_name.result (λ i. (c.type_inv.content i).fits) c.in-Some.ensures c.is_matroska_name.ensures

pub returns-in-None : goal.returns-in-None
returns-in-None c = no_matroska c.args.content.now c.in-None.ensures
