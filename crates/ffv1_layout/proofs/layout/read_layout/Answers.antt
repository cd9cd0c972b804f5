use Rattle.std.proofs.Common.{◌≡◌, ℕ, List, length, map, Bor, sym, subst, arith}
use Rattle.std.proofs.lemmas.List.{length-map}
use Rattle.std.proofs.lemmas.Result.{err_from_is_err_and}
use Rattle.ffv1_range.specs.Setup.{RecordingValue}
use Rattle.ffv1_layout.specs.Layout.{contents_of, IsLayoutOf}
use Rattle.ffv1_layout.specs.Inner.Placing.{HaveFooters, ArePlaced, IsFirstUnplaced}
use Rattle.ffv1_layout.specs.Cuts.{footer_length, FitFooters}
use Rattle.ffv1_layout.proofs.Shorts.{slices_short, slices_long, contents_short}
use Rattle.ffv1_layout.proofs.OneLayout.{one_layout, no_fault}
use Rattle.ffv1_layout.proofs.Layouts.{unplaced_fault, all_fit, tile_fault, layout_is, cut_fault}
use Rattle.ffv1_layout.specs.declared.layout.PlacedSlice.{PlacedSlice}
use Rattle.ffv1_layout.proofs.layout.read_layout.Goals as goal

abbrev bytes_of : Bor (List ℕ) → List ℕ
bytes_of slice = slice.now

-- lists that were read through a reference
placed_same : (r : RecordingValue) (slices slices' : List (Bor (List ℕ))) (placed placed' : List PlacedSlice) → slices' ≡ slices → placed' ≡ placed
    → ArePlaced r (map bytes_of slices') (length slices') placed → ArePlaced r (map bytes_of slices) (length (map bytes_of slices)) placed'
placed_same r slices slices' placed placed' same same_p is =
    subst (ArePlaced r (map bytes_of slices) (length (map bytes_of slices))) (sym same_p)
    (subst (λ n. ArePlaced r (map bytes_of slices) n placed) (sym (length-map slices bytes_of))
    (subst (λ xs. ArePlaced r (map bytes_of xs) (length xs) placed) same is))

pub place_slices-requires : goal.place_slices-requires
place_slices-requires c =
    subst (λ (slices : List (Bor (List ℕ))). HaveFooters (footer_length c.args.recording.now.setup.ec) (map bytes_of slices)) (sym c.deref.ensures.value)
    (slices_long c.args.recording.now c.args.payload.now _ c.in_ok-slices.ensures.ok)

pub check_tiles-requires : goal.check_tiles-requires
check_tiles-requires c =
    all_fit c.args.recording.now c.args.payload.now _ c.in_ok-slices.ensures.ok c.deref-2.result.now
    (placed_same _ _ _ _ _ c.deref.ensures.value c.deref-2.ensures.value c.in_ok-placed.ensures.ok)

pub returns-in_err-slices-clause-err : goal.returns-in_err-slices-clause-err
returns-in_err-slices-clause-err c =
    let p = err_from_is_err_and c.from_residual.result c.from_residual.ensures.1 in
    rw (p.1, p.2) (cut_fault _ _ _ c.in_err-slices.ensures.err)

pub returns-in_err-slices-clause-found : goal.returns-in_err-slices-clause-found
returns-in_err-slices-clause-found c =
    let p = err_from_is_err_and c.from_residual.result c.from_residual.ensures.1 in
    rw (p.1, p.2) (λ slices headers laid. no_fault _ _ slices headers laid _
    (cut_fault _ _ _ c.in_err-slices.ensures.err))

pub returns-in_err-placed-clause-err : goal.returns-in_err-placed-clause-err
returns-in_err-placed-clause-err c =
    let p = err_from_is_err_and c.from_residual-in_err-placed.result c.from_residual-in_err-placed.ensures.1 in
    let at : List (Bor (List ℕ)) → Type 0 = λ slices. IsFirstUnplaced c.args.recording.now (map bytes_of slices) c.in_err-placed.field-0.0 in
    rw (p.1, p.2) (unplaced_fault _ _ _ c.in_ok-slices.ensures.ok _ (subst at c.deref.ensures.value c.in_err-placed.ensures.err))

pub returns-in_err-placed-clause-found : goal.returns-in_err-placed-clause-found
returns-in_err-placed-clause-found c =
    let p = err_from_is_err_and c.from_residual-in_err-placed.result c.from_residual-in_err-placed.ensures.1 in
    let at : List (Bor (List ℕ)) → Type 0 = λ slices. IsFirstUnplaced c.args.recording.now (map bytes_of slices) c.in_err-placed.field-0.0 in
    rw (p.1, p.2) (λ slices headers laid. no_fault _ _ slices headers laid _
    (unplaced_fault _ _ _ c.in_ok-slices.ensures.ok _ (subst at c.deref.ensures.value c.in_err-placed.ensures.err)))

pub returns-in_err-check_tiles-clause-err : goal.returns-in_err-check_tiles-clause-err
returns-in_err-check_tiles-clause-err c =
    let p = err_from_is_err_and c.from_residual-in_err-check_tiles.result c.from_residual-in_err-check_tiles.ensures.1 in
    rw (p.1, p.2) (tile_fault _ _ _ c.in_ok-slices.ensures.ok c.deref-2.result.now
    (placed_same _ _ _ _ _ c.deref.ensures.value c.deref-2.ensures.value c.in_ok-placed.ensures.ok) _ c.in_err-check_tiles.ensures.err)

pub returns-in_err-check_tiles-clause-found : goal.returns-in_err-check_tiles-clause-found
returns-in_err-check_tiles-clause-found c =
    let p = err_from_is_err_and c.from_residual-in_err-check_tiles.result c.from_residual-in_err-check_tiles.ensures.1 in
    rw (p.1, p.2) (λ slices headers laid. no_fault _ _ slices headers laid _
    (tile_fault _ _ _ c.in_ok-slices.ensures.ok c.deref-2.result.now
    (placed_same _ _ _ _ _ c.deref.ensures.value c.deref-2.ensures.value c.in_ok-placed.ensures.ok) _ c.in_err-check_tiles.ensures.err))

pub returns-clause-ok : goal.returns-clause-ok
returns-clause-ok c =
    subst (IsLayoutOf c.args.recording.now c.args.payload.now) c.deref-2.ensures.value
    (layout_is _ _ _ c.in_ok-slices.ensures.ok c.deref-2.result.now
    (placed_same _ _ _ _ _ c.deref.ensures.value c.deref-2.ensures.value c.in_ok-placed.ensures.ok) c.in_ok-check_tiles.ensures.ok)

pub returns-clause-found : goal.returns-clause-found
returns-clause-found c slices headers laid =
    let is : IsLayoutOf c.args.recording.now c.args.payload.now c.in_ok-placed.placed.items = subst (IsLayoutOf c.args.recording.now c.args.payload.now) c.deref-2.ensures.value
    (layout_is _ _ _ c.in_ok-slices.ensures.ok c.deref-2.result.now
    (placed_same _ _ _ _ _ c.deref.ensures.value c.deref-2.ensures.value c.in_ok-placed.ensures.ok) c.in_ok-check_tiles.ensures.ok) in
    (one_layout _ _ _ _ _ _ is.laid_out laid).1

pub returns-clause-short : goal.returns-clause-short
returns-clause-short c =
    let slices = map bytes_of c.in_ok-slices.slices.items in
    subst (λ (placed : List PlacedSlice). FitFooters (contents_of placed)) c.deref-2.ensures.value
    (contents_short c.args.recording.now slices c.deref-2.result.now (slices_short c.args.recording.now c.args.payload.now slices (λ i. let fits = c.type_inv.payload i in omega arith) c.in_ok-slices.ensures.ok)
    (placed_same _ _ _ _ _ c.deref.ensures.value c.deref-2.ensures.value c.in_ok-placed.ensures.ok))
