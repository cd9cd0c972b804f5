use Rattle.std.proofs.Common.{◌≡◌, ◌+◌, sym, ap, ◌∙◌, subst}
use Rattle.std.specs.Prelude.{Contains}
use Rattle.std.proofs.lemmas.Bool.{iff_false}
use Rattle.ebml.specs.declared.head.Head.{Head}
use Rattle.ebml_reader.specs.Pieces.{up_to, IsWithinLeft}
use Rattle.ebml_reader.proofs.StreamSteps.{same_head, none_claimed, one_claimed}
use Rattle.ebml_reader.proofs.streamed.claimed_child.Goals as goal

pub returns-in_default : goal.returns-in_default
returns-in_default g c =
    none_claimed c.args.ids.now c.args.left c.limited.result c.args.intake.now c.fill.new.self _ _ c.front.result.now
    record { none = c.limited.ensures.none; some = c.limited.ensures.some } c.in_ok-fill.ensures.0 c.in_ok-fill.ensures.1 c.in_ok-fill.ensures.2
    (c.front.ensures ∙ ap (up_to c.args.left) c.bytes.ensures.bytes)
    (λ head has known size size_is within. c.in_default.not-Some head (c.read_head.ensures.only head has))

pub returns-then-not-is_among : goal.returns-then-not-is_among
returns-then-not-is_among g c =
    none_claimed c.args.ids.now c.args.left c.limited.result c.args.intake.now c.fill.new.self _ _ c.front.result.now
    record { none = c.limited.ensures.none; some = c.limited.ensures.some } c.in_ok-fill.ensures.0 c.in_ok-fill.ensures.1 c.in_ok-fill.ensures.2
    (c.front.ensures ∙ ap (up_to c.args.left) c.bytes.ensures.bytes)
    (λ head has known size size_is within.
    iff_false c.is_among.ensures c.if-not-is_among.true
    (subst (λ (h : Head). Contains c.args.ids.now h.id) (same_head _ _ (sym c.in-Some.is ∙ c.read_head.ensures.only head has)) known))

pub returns-then-not-fits : goal.returns-then-not-fits
returns-then-not-fits g c =
    none_claimed c.args.ids.now c.args.left c.limited.result c.args.intake.now c.fill.new.self _ _ c.front.result.now
    record { none = c.limited.ensures.none; some = c.limited.ensures.some } c.in_ok-fill.ensures.0 c.in_ok-fill.ensures.1 c.in_ok-fill.ensures.2
    (c.front.ensures ∙ ap (up_to c.args.left) c.bytes.ensures.bytes)
    (λ head has known size size_is within.
    let same : head ≡ c.in-Some.head = same_head _ _ (sym c.in-Some.is ∙ c.read_head.ensures.only head has) in
    c.fits.ensures.none c.if-not-fits.true size (ap (λ (h : Head). h.size) (sym same) ∙ size_is)
    (subst (λ (h : Head). IsWithinLeft (h.length + size) c.args.left) same within))

pub returns : goal.returns
returns g c =
    let fits = c.fits.ensures.some c.if-not-fits.false in
    one_claimed c.args.ids.now c.args.left c.limited.result c.args.intake.now c.fill.new.self _ _ c.front.result.now
    record { none = c.limited.ensures.none; some = c.limited.ensures.some } c.in_ok-fill.ensures.0 c.in_ok-fill.ensures.1 c.in_ok-fill.ensures.2
    (c.front.ensures ∙ ap (up_to c.args.left) c.bytes.ensures.bytes) c.in-Some.head fits.0 c.in-Some.ensures.found
    (λ other has. same_head _ _ (sym c.in-Some.is ∙ c.read_head.ensures.only other has)) (c.is_among.ensures.0 c.if-not-is_among.false) fits.1 fits.2
