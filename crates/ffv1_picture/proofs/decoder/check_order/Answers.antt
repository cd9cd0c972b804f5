use Rattle.std.proofs.Common.{◌≡◌, ◌==◌, ◌<◌, length, Ok, sym, ap, subst, ◌∙◌, below_more, arith}
use Rattle.std.proofs.lemmas.List.{get_or_default}
use Rattle.ffv1_range.specs.TileHeaders.{profile_rules}
use Rattle.ffv1_slice.specs.Chain.{LinkValue}
use Rattle.ffv1_slice.specs.Slices.{slice_read}
use Rattle.ffv1_picture.specs.Frames.{link_at, no_link}
use Rattle.ffv1_picture.proofs.decoder.check_order.Goals as goal

pub loop-place-preserved : goal.loop-place-preserved
loop-place-preserved c =
    let links = c.args.links.now in
    let place = c.loop-place.place in
    let link = c.index-links-place.result in
    let lt : place < length links = omega arith in
    let here : link_at links place ≡ link = get_or_default links place no_link link lt ∙ sym c.index-links-place.is in
    let P : LinkValue → Type 0 = λ l. slice_read (profile_rules c.args.setup.now) l.bytes (l.start == 0) ≡ Ok place in
    below_more _ _ c.loop-place.invariant (subst P (sym here) (sym c.in-Ok.ensures.read ∙ ap Ok c.if-tile-place.true))

pub returns-in-Ok-2-clause-err : goal.returns-in-Ok-2-clause-err
returns-in-Ok-2-clause-err c =
    let links = c.args.links.now in
    let place = c.loop-place.place in
    let link = c.index-links-place.result in
    let lt : place < length links = omega arith in
    let here : link_at links place ≡ link = get_or_default links place no_link link lt ∙ sym c.index-links-place.is in
    let P : LinkValue → Type 0 = λ l. slice_read (profile_rules c.args.setup.now) l.bytes (l.start == 0) ≡ Ok c.in-Ok.tile in
    (lt, c.loop-place.invariant, (c.in-Ok.tile, subst P (sym here) (sym c.in-Ok.ensures.read), c.if-tile-place.false))
