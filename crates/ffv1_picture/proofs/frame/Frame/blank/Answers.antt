use Rattle.std.proofs.Common.{◌≡◌, ◌++◌, ◌∷◌, ◌*◌, [], map, replicate, sym, ap, ◌∙◌, arith, rules}
use Rattle.std.specs.List.{range_with_len}
use Rattle.std.proofs.lemmas.List.{map-append}
use Rattle.std.proofs.lemmas.List.FromFn.{map-range_with_len_more}
use Rattle.ffv1_range.specs.Tiles.{grid_of, frame_rect}
use Rattle.ffv1_picture.specs.WholePicture.{whole_plane}
use Rattle.ffv1_picture.proofs.WholePlanes.{blank_plane}
use Rattle.ffv1_picture.proofs.frame.Frame.blank.Goals as goal

pub loop-plane-preserved : goal.loop-plane-preserved
loop-plane-preserved c =
    let g = grid_of c.args.setup.now in
    let n = c.loop-plane.plane in
    let vec = c.in_ok-vec.field-0 in
    let size = c.plane_size-size.result in
    let all : vec.items ≡ replicate (size.w * size.h) 128 = search rules in
    ap (map (λ plane. plane.items)) c.in_ok-push.ensures.items ∙ map-append (λ plane. plane.items) c.loop-plane.planes.items (vec ∷ [])
    ∙ ap (λ xs. xs ++ vec.items ∷ []) c.loop-plane.invariant
    ∙ ap (λ xs. map (whole_plane g []) (range_with_len 0 n) ++ xs ∷ [])
    (blank_plane g n size vec.items (c.plane_size-size.ensures ∙ ap (λ v. frame_rect v n) c.grid-grid.ensures) all)
    ∙ sym (map-range_with_len_more (whole_plane g []) 0 n n (omega arith))
