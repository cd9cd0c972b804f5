use Rattle.std.proofs.Common.{◌<◌, length, arith, ap, ◌∙◌}
use Rattle.std.proofs.lemmas.List.{get_or_default}
use Rattle.ffv1_holding.specs.Sets as set
use Rattle.ffv1_holding.specs.TileState.{status_of}
use Rattle.ffv1_holding.proofs.RisingSets.{size-items}
use Rattle.ffv1_holding.proofs.shelf.Shelf.status.Goals as goal

pub status_of-requires : goal.status_of-requires
status_of-requires c = c.get.ensures.framed.footer

pub returns : goal.returns
returns c d =
    let slices = set.items c.args.self.now in
    let lt : c.args.place < length slices = omega (arith, c.requires, size-items c.args.self.now) in
    c.status_of.ensures ∙ ap status_of (c.get.ensures.value ∙ get_or_default slices c.args.place c.get.result.now d lt)
