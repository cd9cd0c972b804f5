use Rattle.std.proofs.Common.{◌≡◌, ◌<◌, ◌++◌, ◌∷◌, [], ◌+◌, List, map, length, ap, sym, ◌∙◌, arith, subst, append_assoc, append-nil, length-append}
use Rattle.std.proofs.lemmas.List.{map-append, get_or-append-add, nil_from_length}
use Rattle.ffv1_plane.specs.Inner.Rows.{RowsRead}
use Rattle.ffv1_plane.specs.Inner.RangeLines.{no_rows, rows_at}
use Rattle.ffv1_plane.proofs.planes.SlicePlanes.into_samples.Goals as goal

-- the element after the first ones
row_after : (before rest : List RowsRead) (row : RowsRead) → rows_at (before ++ (row ∷ rest)) (length before) ≡ row
row_after before rest row =
    (let at : length before ≡ length before + 0 = omega arith in ap (λ n. rows_at (before ++ (row ∷ rest)) n) at ∙ get_or-append-add before (row ∷ rest) 0 no_rows)

is_inside : (before rest : List RowsRead) (row : RowsRead) → length before < length (before ++ (row ∷ rest))
is_inside before rest row = let sum = length-append before (row ∷ rest) in omega (arith, sum)

pub loop-plane-init : goal.loop-plane-init
loop-plane-init c = record { made = ap (map (λ plane. plane.items)) c.in_ok-planes.ensures.items; all = sym c.into_iter-plane-iterator.ensures.into_iter_gives.0 }

pub into_rows-requires : goal.into_rows-requires
into_rows-requires c =
    let list = c.loop-plane.invariant.all ∙ ap (λ l. c.loop-plane.yielded ++ l) c.in-Some.ensures.steps.0 in
    subst (λ row. row.x ≡ 0) (ap (λ l. rows_at l (length c.loop-plane.yielded)) list ∙ row_after c.loop-plane.yielded c.next.new.self.rest.items c.in-Some.plane)
    (c.requires (length c.loop-plane.yielded) (subst (λ (l : List RowsRead). length c.loop-plane.yielded < length l) (sym list)
    (is_inside c.loop-plane.yielded c.next.new.self.rest.items c.in-Some.plane)))

pub loop-plane-preserved : goal.loop-plane-preserved
loop-plane-preserved c = record {
  made =
      ap (map (λ plane. plane.items)) c.in_ok-push.ensures.items ∙ map-append (λ plane. plane.items) c.loop-plane.planes.items (c.into_rows.result ∷ [])
      ∙ ap (λ l. l ++ c.into_rows.result.items ∷ []) c.loop-plane.invariant.made
      ∙ ap (λ s. map (λ (rows : RowsRead). rows.samples) c.loop-plane.yielded ++ s ∷ []) c.into_rows.ensures
      ∙ sym (map-append (λ (rows : RowsRead). rows.samples) c.loop-plane.yielded (c.in-Some.plane ∷ []));
  all =
      c.loop-plane.invariant.all ∙ ap (λ l. c.loop-plane.yielded ++ l) c.in-Some.ensures.steps.0
      ∙ sym (append_assoc c.loop-plane.yielded (c.in-Some.plane ∷ []) c.next.new.self.rest.items);
}

pub returns : goal.returns
returns c =
    c.loop-plane.invariant.made
    ∙ ap (map (λ (rows : RowsRead). rows.samples)) (sym (c.loop-plane.invariant.all ∙ ap (λ l. c.loop-plane.yielded ++ l) (nil_from_length _ (omega (arith, c.loop-plane.plane-iterator.rest.ok.0, c.in-None.ensures.steps.0))) ∙ append-nil c.loop-plane.yielded))
