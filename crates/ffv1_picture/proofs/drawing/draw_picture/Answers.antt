use Rattle.std.proofs.Common.{◌+◌, ◌<◌, length, map, get_or, sym, ap, subst, ◌∙◌, arith, ℕ}
use Rattle.std.proofs.lemmas.List.{length-map, map-set, with_items_is}
use Rattle.std.proofs.Math.ListN.{set}
use Rattle.std.specs.Vec.{with_items}
use Rattle.ffv1_range.specs.Tiles.{plane_count, plane_rect, frame_rect}
use Rattle.ffv1_picture.specs.WholePicture.{Planes}
use Rattle.ffv1_picture.specs.Inner.Drawing.{area}
use Rattle.ffv1_picture.proofs.Drawings.{DrawsPlanes, plane_drawn, items_of, read_plane, rect_fits, draws_same, fits_same}
use Rattle.ffv1_picture.proofs.drawing.draw_picture.Goals as goal

pub draw_samples-requires-clause-inside : goal.draw_samples-requires-clause-inside
draw_samples-requires-clause-inside c =
    let g = c.args.grid.now in
    let n = c.loop-plane.plane in
    let mid = c.loop-plane.planes in
    let lt : n < length mid = omega (arith, c.loop-plane-test.true, c.loop-plane.auto.planes) in
    let few : n < plane_count g = omega (arith, lt, c.loop-plane.auto.planes, length-map c.args.planes.now items_of, c.requires.sizes.count) in
    let here = read_plane mid n c.index-planes-plane.result lt c.index-planes-plane.is in
    let long = ap length c.deref_mut.ensures.value ∙ ap (λ v. length (items_of v)) (sym c.index-planes-plane.is) ∙ ap length (sym here)
    ∙ ap length (c.loop-plane.invariant.others n (omega arith)) ∙ c.requires.sizes.each n few in
    fits_same _ _ _ _ _ _ (sym (ap (λ r. r.w) c.plane_size-width.ensures)) (sym long) (sym c.plane_rect-rect.ensures)
    (rect_fits g c.across-across.ensures.grid c.args.tile c.requires.tile n)

pub draw_samples-requires-clause-samples : goal.draw_samples-requires-clause-samples
draw_samples-requires-clause-samples c =
    let g = c.args.grid.now in
    let n = c.loop-plane.plane in
    let picture = c.args.picture.now in
    let few : n < plane_count g = omega (
      arith,
      c.loop-plane-test.true,
      c.loop-plane.auto.planes,
      length-map c.args.planes.now items_of,
      c.requires.sizes.count,
    ) in
    let among : n < length picture = omega (arith, few, length-map picture items_of, c.requires.picture.count) in
    ap length (c.deref.ensures.value ∙ sym (read_plane picture n c.index-picture-plane.result among c.index-picture-plane.is))
    ∙ c.requires.picture.each n few ∙ ap area (sym c.plane_rect-rect.ensures)

pub loop-plane-preserved : goal.loop-plane-preserved
loop-plane-preserved c =
    let g = c.args.grid.now in
    let n = c.loop-plane.plane in
    let mid = c.loop-plane.planes in
    let old = map items_of c.args.planes.now in
    let picture = map items_of c.args.picture.now in
    let samples = c.draw_samples.new.plane in
    let lt : n < length mid = omega (arith, c.loop-plane-test.true, c.loop-plane.auto.planes) in
    let among : n < length c.args.picture.now = omega (
      arith,
      lt,
      c.loop-plane.auto.planes,
      length-map c.args.planes.now items_of,
      c.requires.sizes.count,
      length-map c.args.picture.now items_of,
      c.requires.picture.count,
    ) in
    let v = get_or mid n c.index-planes-plane.result in
    let width : ℕ → ℕ = λ plane. (frame_rect g plane).w in
    let P : Planes → Type 0 = λ planes. DrawsPlanes width (plane_rect g c.args.tile) (n + 1) picture old planes in
    subst P (sym (map-set items_of mid n (with_items v samples) ∙ ap (set (map items_of mid) n)
    (with_items_is v samples (c.draw_samples.ensures.same_length ∙ c.deref_mut.ensures.len))))
    (plane_drawn width (plane_rect g c.args.tile) n picture old (map items_of mid) samples c.loop-plane.invariant (omega (arith, lt, length-map mid items_of))
    (draws_same _ _ _ _ _ _ _ _ samples (ap (λ r. r.w) c.plane_size-width.ensures) c.plane_rect-rect.ensures
    (c.deref.ensures.value ∙ sym (read_plane c.args.picture.now n c.index-picture-plane.result among c.index-picture-plane.is))
    (c.deref_mut.ensures.value ∙ ap items_of (sym c.index-planes-plane.is) ∙ sym (read_plane mid n c.index-planes-plane.result lt c.index-planes-plane.is))
    c.draw_samples.ensures))

pub returns : goal.returns
returns c =
    let inv = c.loop-plane.invariant in
    record {
      same_count = inv.same_count;
      each = λ plane lt. inv.each plane (omega (arith, lt, c.loop-plane-test.false, length-map c.args.planes.now items_of, c.requires.sizes.count));
    }

pub bounds-picture-plane : goal.bounds-picture-plane
bounds-picture-plane c = omega (
  arith,
  c.loop-plane-test.true,
  c.loop-plane.auto.planes,
  length-map c.args.planes.now items_of,
  c.requires.sizes.count,
  length-map c.args.picture.now items_of,
  c.requires.picture.count,
)
