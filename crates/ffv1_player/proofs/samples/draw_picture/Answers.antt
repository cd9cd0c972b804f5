use Rattle.std.proofs.Common.{◌≡◌, ◌+◌, ◌<◌, length, map, get_or, sym, ap, subst, ◌∙◌, arith, List, ℕ}
use Rattle.std.proofs.lemmas.List.{length-map, map-set, with_items_is}
use Rattle.std.proofs.Math.ListN.{set}
use Rattle.std.specs.Vec.{with_items}
use Rattle.ffv1_range.specs.Setup.{RecordingValue}
use Rattle.ffv1_range.specs.Tiles.{GridValue, grid_of, tiles_rect}
use Rattle.ffv1_range.specs.declared.grid.TileRect.{TileRect}
use Rattle.ffv1_range.specs.declared.head.SliceHeader.{SliceHeader}
use Rattle.ffv1_picture.proofs.Drawings.{DrawsPlanes, plane_drawn, items_of, read_plane, draws_same, fits_same}
use Rattle.ffv1_samples.specs.States.{count_of_planes}
use Rattle.ffv1_samples.specs.Sizes.{slice_rect}
use Rattle.ffv1_samples.specs.Slices.{slice_picture_value}
use Rattle.ffv1_player.specs.Frames.{rect_in, frame_in}
use Rattle.ffv1_picture.specs.Inner.Drawing.{area}
use Rattle.ffv1_player.proofs.Drawings.{rect_fits, frame_drawn}
use Rattle.ffv1_player.proofs.samples.draw_picture.Goals as goal

-- where a slice lies, by a grid that is the recording's
rect_of : (r : RecordingValue) (header : SliceHeader) (grid : GridValue) (rect : TileRect) → grid ≡ grid_of r.setup
    → rect ≡ tiles_rect grid header.x header.y header.w header.h → rect ≡ slice_rect r header
rect_of r header grid rect is at = at ∙ ap (λ g. tiles_rect g header.x header.y header.w header.h) is

pub draw_samples-requires-clause-inside : goal.draw_samples-requires-clause-inside
draw_samples-requires-clause-inside c =
    let r = c.args.recording.now in
    let n = c.loop-plane.plane in
    let mid = c.loop-plane.planes in
    let lt : n < length mid = omega (arith, c.loop-plane-test.true, c.loop-plane.auto.planes) in
    let few : n < count_of_planes r = omega (arith, lt, c.loop-plane.auto.planes, length-map c.args.planes.now items_of, c.requires.planes.count) in
    let here = read_plane mid n c.index-planes-plane.result lt c.index-planes-plane.is in
    let long = ap length c.deref_mut.ensures.value ∙ ap (λ v. length (items_of v)) (sym c.index-planes-plane.is) ∙ ap length (sym here)
    ∙ ap length (c.loop-plane.invariant.others n (omega arith)) ∙ c.requires.planes.each n few in
    fits_same _ _ _ _ _ _ (sym (ap (λ r. r.w) c.frame_in-width.ensures)) (sym long) (sym (c.rect_in-place.ensures ∙ ap (rect_in r n) (rect_of r c.args.picture.now.header c.grid.result c.rect-rect.result c.grid.ensures c.rect-rect.ensures)))
    (rect_fits r c.keeps_version_3.ensures c.args.picture.now.header c.requires.header n)

pub draw_samples-requires-clause-samples : goal.draw_samples-requires-clause-samples
draw_samples-requires-clause-samples c =
    let r = c.args.recording.now in
    let n = c.loop-plane.plane in
    let picture = c.args.picture.now.planes.items in
    let few : n < count_of_planes r = omega (
      arith,
      c.loop-plane-test.true,
      c.loop-plane.auto.planes,
      length-map c.args.planes.now items_of,
      c.requires.planes.count,
    ) in
    let among : n < length picture = omega (arith, few, length-map picture items_of, c.requires.picture.count) in
    ap length (c.deref.ensures.value ∙ sym (read_plane picture n c.index.result.now among c.index.ensures))
    ∙ c.requires.picture.each n few
    ∙ ap area (sym (c.rect_in-place.ensures ∙ ap (rect_in r n) (rect_of r c.args.picture.now.header c.grid.result c.rect-rect.result c.grid.ensures c.rect-rect.ensures)))

pub loop-plane-preserved : goal.loop-plane-preserved
loop-plane-preserved c =
    let r = c.args.recording.now in
    let n = c.loop-plane.plane in
    let mid = c.loop-plane.planes in
    let old = map items_of c.args.planes.now in
    let header = c.args.picture.now.header in
    let picture = map items_of c.args.picture.now.planes.items in
    let samples = c.draw_samples.new.plane in
    let lt : n < length mid = omega (arith, c.loop-plane-test.true, c.loop-plane.auto.planes) in
    let among : n < length c.args.picture.now.planes.items = omega (
      arith,
      lt,
      c.loop-plane.auto.planes,
      length-map c.args.planes.now items_of,
      c.requires.planes.count,
      length-map c.args.picture.now.planes.items items_of,
      c.requires.picture.count,
    ) in
    let v = get_or mid n c.index-planes-plane.result in
    let width : ℕ → ℕ = λ p. (frame_in r p).w in
    let place : ℕ → TileRect = λ p. rect_in r p (slice_rect r header) in
    let P : List (List ℕ) → Type 0 = λ planes. DrawsPlanes width place (n + 1) picture old planes in
    subst P (sym (map-set items_of mid n (with_items v samples) ∙ ap (set (map items_of mid) n)
    (with_items_is v samples (c.draw_samples.ensures.same_length ∙ c.deref_mut.ensures.len))))
    (plane_drawn width place n picture old (map items_of mid) samples c.loop-plane.invariant (omega (arith, lt, length-map mid items_of))
    (draws_same _ _ _ _ _ _ _ _ samples (ap (λ r. r.w) c.frame_in-width.ensures)
    (c.rect_in-place.ensures ∙ ap (rect_in r n) (rect_of r header c.grid.result c.rect-rect.result c.grid.ensures c.rect-rect.ensures))
    (c.deref.ensures.value ∙ sym (read_plane c.args.picture.now.planes.items n c.index.result.now among c.index.ensures))
    (c.deref_mut.ensures.value ∙ ap items_of (sym c.index-planes-plane.is) ∙ sym (read_plane mid n c.index-planes-plane.result lt c.index-planes-plane.is))
    c.draw_samples.ensures))

pub returns : goal.returns
returns c =
    λ pictures is.
    let all : c.loop-plane.plane ≡ count_of_planes c.args.recording.now =
    omega (arith, c.loop-plane-test.false, c.loop-plane.auto.planes, length-map c.args.planes.now items_of, c.requires.planes.count) in
    frame_drawn c.args.recording.now (slice_picture_value c.args.picture.now) pictures (map items_of c.args.planes.now) (map items_of c.loop-plane.planes)
    (subst (λ n. DrawsPlanes (λ p. (frame_in c.args.recording.now p).w) (λ p. rect_in c.args.recording.now p (slice_rect c.args.recording.now c.args.picture.now.header)) n (map items_of c.args.picture.now.planes.items) (map items_of c.args.planes.now)
    (map items_of c.loop-plane.planes)) all c.loop-plane.invariant) is
