use Rattle.std.proofs.Common.{◌≡◌, ◌<◌, ◌∷◌, [], ℕ, List, Option, None, length, map, get_or, ap, sym, ◌∙◌, take_all, arith, subst}
use Rattle.std.proofs.lemmas.List.{length-map, map-append}
use Rattle.ffv1_mend.proofs.PartSteps.{zip_at}
use Rattle.ffv1_stretches.specs.Stretches.{StretchValue}
use Rattle.ffv1_stretches.specs.Inner.CellSteps.{cell_now, HasRoom, held_cell, held_cells}
use Rattle.ffv1_stretches.proofs.CellLemmas.{room_of, room_at, held_more, length-held}
use Rattle.ffv1_stretches.proofs.cells.cells_of.Goals as goal

-- a place of the slice is one of the stretch's places and of the copies
in_both : {T : Type 0} (i : ℕ) (places own : List (Option ℕ)) (copies : List T) → places ≡ own → length own ≡ length copies → i < length places
    → (i < length own) × (i < length copies)
in_both i places own copies same count lt = (omega (arith, ap length same, lt), omega (arith, ap length same, count, lt))

pub cell_of-requires : goal.cell_of-requires
cell_of-requires g c =
    let i = c.loop-index.index in
    let own : c.stretch.inside.places.items ≡ c.args.stretch.now.places = ap (λ (s : StretchValue). s.places) c.stretch.view_is in
    let size : c.stretch.inside.size ≡ c.args.stretch.now.size = ap (λ (s : StretchValue). s.size) c.stretch.view_is in
    let places = c.as_slice-places.ensures.value ∙ own in
    let (lt, within) = in_both i _ _ c.args.copies.now places c.requires.count c.loop-index-test.true in
    let held = zip_at (HasRoom c.args.stretch.now.size) c.args.stretch.now.places (map room_of c.args.copies.now) i None [] c.requires.held lt in
    subst (λ n. HasRoom n (get_or c.as_slice-places.result.now i None) c.index-copies-index.result.room.items) (sym size)
    (subst (λ ps. HasRoom c.args.stretch.now.size (get_or ps i None) c.index-copies-index.result.room.items) (sym places)
    (subst (HasRoom c.args.stretch.now.size (get_or c.args.stretch.now.places i None)) (room_at c.args.copies.now i c.index-copies-index.result within c.index-copies-index.is) held))

pub loop-index-preserved : goal.loop-index-preserved
loop-index-preserved g c =
    let i = c.loop-index.index in
    let own : c.stretch.inside.places.items ≡ c.args.stretch.now.places = ap (λ (s : StretchValue). s.places) c.stretch.view_is in
    let size : c.stretch.inside.size ≡ c.args.stretch.now.size = ap (λ (s : StretchValue). s.size) c.stretch.view_is in
    let places = c.as_slice-places.ensures.value ∙ own in
    let (lt, within) = in_both i _ _ c.args.copies.now places c.requires.count c.loop-index-test.true in
    let cell : cell_now c.cell_of.result ≡ held_cell c.args.stretch.now.size (get_or c.args.stretch.now.places i None) (get_or (map room_of c.args.copies.now) i []) =
    c.cell_of.ensures ∙ ap (λ n. held_cell n (get_or c.as_slice-places.result.now i None) c.index-copies-index.result.room.items) size
    ∙ ap (λ ps. held_cell c.args.stretch.now.size (get_or ps i None) c.index-copies-index.result.room.items) places
    ∙ ap (held_cell c.args.stretch.now.size (get_or c.args.stretch.now.places i None))
    (sym (room_at c.args.copies.now i c.index-copies-index.result within c.index-copies-index.is)) in
    ap (map cell_now) c.in_ok-push.ensures.items ∙ map-append cell_now c.loop-index.cells.items (c.cell_of.result ∷ [])
    ∙ held_more c.args.stretch.now.size c.args.stretch.now.places (map room_of c.args.copies.now) i (map cell_now c.loop-index.cells.items)
    (cell_now c.cell_of.result) lt (c.requires.count ∙ sym (length-map c.args.copies.now room_of)) c.loop-index.invariant cell

pub returns : goal.returns
returns g c =
    let own : c.stretch.inside.places.items ≡ c.args.stretch.now.places = ap (λ (s : StretchValue). s.places) c.stretch.view_is in
    let places = c.as_slice-places.ensures.value ∙ own in
    let count = c.requires.count in
    c.loop-index.invariant ∙ take_all c.loop-index.index (held_cells c.args.stretch.now.size c.args.stretch.now.places (map room_of c.args.copies.now))
    (omega (
      arith,
      count,
      ap length places,
      c.loop-index-test.false,
      length-held c.args.stretch.now.size c.args.stretch.now.places (map room_of c.args.copies.now) (count ∙ sym (length-map c.args.copies.now room_of)),
    ))
