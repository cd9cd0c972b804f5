use Rattle.std.proofs.Common.{ap, ◌∙◌, arith}
use Rattle.std.proofs.lemmas.List.{get_or-map}
use Rattle.ffv1_holding.specs.SliceOrder.{bytes_total}
use Rattle.ffv1_holding.proofs.RisingSets.{size_kept, items_kept}
use Rattle.ffv1_holding.proofs.slice_set.SliceSet.get.Goals as goal

pub index-requires : goal.index-requires
index-requires c = omega (arith, c.requires, size_kept bytes_total (λ v. v.items) c.self.inside.slices.items _ c.self.invariant c.self.view_is)

pub returns : goal.returns
returns c =
    let listed = items_kept bytes_total (λ v. v.items) c.self.inside.slices.items _ c.self.invariant c.self.view_is in
    let long = size_kept bytes_total (λ v. v.items) c.self.inside.slices.items _ c.self.invariant c.self.view_is in
    let at = get_or-map (λ v. v.items) c.self.inside.slices.items c.args.place c.index.result.now c.as_slice.result.now (omega (arith, c.requires, long)) in
    rw (listed, at) (c.as_slice.ensures.value ∙ ap (λ v. v.items) c.index.ensures)
