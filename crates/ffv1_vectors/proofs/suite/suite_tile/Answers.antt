use Rattle.std.proofs.Common.{◌≡◌, ℕ, ◌+◌, ◌*◌, ◌%◌, List, [], ◌∷◌, ◌++◌, length, map, Vec, Global, refl, ap, ◌∙◌, arith}
use Rattle.std.proofs.lemmas.List.{length-append, length-map, map-append}
use Rattle.std.proofs.lemmas.Result.{err_from_is_err_and}
use Rattle.ffv1_range.specs.Tiles.{GridValue, plane_count, plane_rect, grid_of}
use Rattle.ffv1_range.specs.declared.grid.TileRect.{TileRect}
use Rattle.ffv1_vectors.specs.Suite.{IsSuitePlane}
use Rattle.ffv1_vectors.proofs.SuiteSteps.{each_more, of_own_length}
use Rattle.ffv1_vectors.proofs.FrameSteps.{three_planes, one_plane}
use Rattle.ffv1_vectors.proofs.suite.suite_tile.Goals as goal
use Rattle.ffv1_vectors.proofs.suite.suite_tile.Goals.{then-has_chroma, else-has_chroma}

pub loop-plane-preserved : goal.loop-plane-preserved
loop-plane-preserved c =
    let before = c.loop-plane.invariant in
    let made = c.in_ok-suite_plane.ensures in
    let items = c.in_ok-push.ensures.items in
    let view : Vec ℕ Global → List ℕ = λ plane. plane.items in
    let old : List (List ℕ) = map view c.loop-plane.planes.items in
    let new : List (List ℕ) = map view c.push.new.self.items in
    let count : length old ≡ c.loop-plane.plane = omega (arith, length-map c.loop-plane.planes.items view, before.count) in
    let grown : new ≡ old ++ c.in_ok-suite_plane.field-0.items ∷ [] =
    ap (map view) items ∙ map-append view c.loop-plane.planes.items (c.in_ok-suite_plane.field-0 ∷ []) in
    let size : ℕ → ℕ = λ k. (plane_rect (grid_of c.args.setup.now) c.args.tile k).w * (plane_rect (grid_of c.args.setup.now) c.args.tile k).h in
    let place : c.plane_rect-rect.result ≡ plane_rect (grid_of c.args.setup.now) c.args.tile c.loop-plane.plane =
    c.plane_rect-rect.ensures ∙ ap (λ (g : GridValue). plane_rect g c.args.tile c.loop-plane.plane) c.grid-grid.ensures in
    let sized : length c.in_ok-suite_plane.field-0.items ≡ size c.loop-plane.plane = made.many ∙ ap (λ (r : TileRect). r.w * r.h) place in
    record {
      count = omega (arith, ap length items, length-append {A = Vec ℕ Global});
      sizes = each_more (λ k samples. length samples ≡ size k) c.loop-plane.plane old new c.in_ok-suite_plane.field-0.items [] count grown before.sizes sized;
      of_case =
          each_more (λ k samples. IsSuitePlane c.args.case.now.content ((c.args.tile * 50 + k * 7) % 256) (length samples) samples) c.loop-plane.plane old new
          c.in_ok-suite_plane.field-0.items [] count grown before.of_case
          (of_own_length c.args.case.now.content _ _ c.in_ok-suite_plane.field-0.items made);
    }

pub returns-in_err-suite_plane : goal.returns-in_err-suite_plane
returns-in_err-suite_plane c =
    let p = err_from_is_err_and c.from_residual.result c.from_residual.ensures.1 in rw p.1 (record { fits = tt; tile = tt })

pub returns-in_err-push : goal.returns-in_err-push
returns-in_err-push c =
    let p = err_from_is_err_and c.from_residual-in_err-push.result c.from_residual-in_err-push.ensures.1 in rw p.1 (record { fits = tt; tile = tt })

pub returns : goal.returns
returns c =
    let counted : c.if-has_chroma.count ≡ plane_count (grid_of c.args.setup.now) =
    elim c.if-has_chroma.branch [
      | then-has_chroma w ↦ three_planes c.args.setup.now _ _ w.count-is c.has_chroma.ensures w.if-has_chroma.true
      | else-has_chroma w ↦ one_plane c.args.setup.now _ _ w.count-is c.has_chroma.ensures w.if-has_chroma.false
    ] in
    let all = c.loop-plane.invariant in
    let some = c.keeps_profile.ensures.some_set in
    record {
      fits = record {
        luma_table = some;
        chroma_table = some;
        count = omega (arith, counted, all.count);
        sizes = λ plane lt. all.sizes plane (omega (arith, lt, all.count));
      };
      tile = record {
        planes = λ plane lt. all.of_case plane (omega (arith, lt, all.count));
        status = refl;
        luma_table = refl;
        chroma_table = refl;
        picture_structure = refl;
        sar_num = refl;
        sar_den = refl;
      };
    }
