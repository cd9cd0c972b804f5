use Rattle.std.proofs.Common.{◌∙◌, ap, length, min}
use Rattle.ebml_reader.proofs.Ends.{element_ends}
use Rattle.ebml_reader.proofs.elements.element_end.Goals as goal

pub returns : goal.returns
returns g c =
    element_ends c.args.head.now c.args.intake.now c.fill.new.self _ _ c.whole_length-whole.result c.min.result c.requires c.whole_length-whole.ensures
    (c.min.ensures ∙ ap (λ l. min c.whole_length-whole.result (length l)) c.bytes.ensures.bytes) c.in_ok-fill.ensures.0
    c.in_ok-fill.ensures.1 c.in_ok-fill.ensures.2
