use Rattle.std.proofs.Common.{◌≡◌, ◌<◌, ◌∷◌, ◌++◌, ℕ, List, [], length, map, take, sym, ap, ◌∙◌, subst, arith, slice_index}
use Rattle.std.proofs.lemmas.List.{get_or-map, length-map, map-append, take_more}
use Rattle.ffv1_samples.specs.Pictures.{slice_plane_at}
use Rattle.ffv1_samples.proofs.colors.narrowed_planes.Goals as goal

pub narrowed-requires : goal.narrowed-requires
narrowed-requires c = λ s.
    let at : slice_plane_at (map (λ plane. plane.items) c.args.planes.now) c.loop-index.index ≡ c.deref.result.now =
    get_or-map (λ plane. plane.items) c.args.planes.now c.loop-index.index c.index-planes-index.result [] c.loop-index-test.true
    ∙ ap (λ plane. plane.items) (sym c.index-planes-index.is) ∙ sym c.deref.ensures.value in
    subst (λ (l : List ℕ). slice_index l s < 65536) at (c.requires c.loop-index.index s)

pub loop-index-preserved : goal.loop-index-preserved
loop-index-preserved c =
    let planes = map (λ plane. plane.items) c.args.planes.now in
    let at : slice_plane_at (map (λ plane. plane.items) c.args.planes.now) c.loop-index.index ≡ c.in_ok-narrowed.field-0.items =
    get_or-map (λ plane. plane.items) c.args.planes.now c.loop-index.index c.index-planes-index.result [] c.loop-index-test.true
    ∙ ap (λ plane. plane.items) (sym c.index-planes-index.is) ∙ sym c.deref.ensures.value ∙ sym c.in_ok-narrowed.ensures in
    let inside : c.loop-index.index < length (map (λ plane. plane.items) c.args.planes.now) =
    omega (arith, length-map c.args.planes.now (λ plane. plane.items), c.loop-index-test.true) in
    ap (map (λ plane. plane.items)) c.in_ok-push.ensures.items
    ∙ map-append (λ plane. plane.items) c.loop-index.narrow.items (c.in_ok-narrowed.field-0 ∷ [])
    ∙ ap (λ l. l ++ c.in_ok-narrowed.field-0.items ∷ []) c.loop-index.invariant
    ∙ ap (λ x. take c.loop-index.index planes ++ x ∷ []) (sym at)
    ∙ sym (take_more planes c.loop-index.index [] inside)
