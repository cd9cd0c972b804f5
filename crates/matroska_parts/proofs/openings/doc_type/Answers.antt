use Rattle.std.proofs.Common.{ap}
use Rattle.std.specs.Option.{option_copied}
use Rattle.matroska_parts.proofs.OpeningSteps.{no_doc_type, one_doc_type, two_doc_types}
use Rattle.matroska_parts.proofs.openings.doc_type.Goals as goal

pub returns-in_default : goal.returns-in_default
returns-in_default c = no_doc_type c.args.content.now (λ i. (c.type_inv.content i).fits) c.in_default.ensures.none

pub returns-in-Some-last_content : goal.returns-in-Some-last_content
returns-in-Some-last_content c =
    two_doc_types c.args.content.now c.in-Some.first.rest.now c.in-Some.first.bytes.now c.in-Some-last_content.field-0.now (option_copied c.last_content.result)
    (λ i. (c.type_inv.content i).fits) c.in-Some.ensures.found c.last_content.ensures (ap option_copied c.in-Some-last_content.is)

pub returns-in-None : goal.returns-in-None
returns-in-None c =
    one_doc_type c.args.content.now c.in-Some.first.rest.now c.in-Some.first.bytes.now c.text_of.result.now (option_copied c.last_content.result)
    c.in-Some.ensures.found c.last_content.ensures (ap option_copied c.in-None.is) c.text_of.ensures
