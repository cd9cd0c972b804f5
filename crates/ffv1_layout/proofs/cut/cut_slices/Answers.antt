use Rattle.std.proofs.Common.{◌≡◌, ◌≤◌, ℕ, List, length, map, reverse, Bor, refl, sym, ap, subst, ◌∙◌, inr, arith}
use Rattle.std.proofs.lemmas.List.{length-map, length-reverse, map-append}
use Rattle.std.proofs.lemmas.Grind.{common_steps}
use Rattle.ffv1_range.specs.Tiles.{tile_count}
use Rattle.ffv1_layout.specs.Cuts.{AreCutAt}
use Rattle.ffv1_layout.specs.Inner.Cutting.{AreCutAfter}
use Rattle.ffv1_layout.proofs.Cutting.{after_end, after_more, never_cut, one_before, all_cut, cut_once, map-reverse}
use Rattle.ffv1_layout.proofs.cut.cut_slices.Goals as goal

abbrev bytes_of : Bor (List ℕ) → List ℕ
bytes_of slice = slice.now

pub loop-end-init : goal.loop-end-init
loop-end-init c = rw c.new-slices.ensures.items (record { cut = after_end _ _; few = omega arith })

pub slice_start_by-requires-clause-within : goal.slice_start_by-requires-clause-within
slice_start_by-requires-clause-within c = c.loop-end.invariant.cut.within

pub returns-in_default-clause-err : goal.returns-in_default-clause-err
returns-in_default-clause-err c =
    let cut = c.in_default.ensures.cut in
    inr (
      refl,
      λ slices are. never_cut _ _ _ _ c.loop-end.invariant.cut c.loop-end-test.true cut slices
          (subst (λ n. AreCutAt n c.args.payload.now (length c.args.payload.now) slices) (sym c.footer_length-footer.ensures.value) are.cut),
    )

pub returns-then-len-most-clause-err : goal.returns-then-len-most-clause-err
returns-then-len-most-clause-err c =
    inr (
      refl,
      λ slices are.
          let more = one_before _ _ _ _ c.loop-end.invariant.cut c.loop-end-test.true slices
          (subst (λ n. AreCutAt n c.args.payload.now (length c.args.payload.now) slices) (sym c.footer_length-footer.ensures.value) are.cut) in
          let few = are.few in
          let same = ap tile_count c.grid.ensures in
          omega (arith, more, few, same, length-map c.loop-end.slices.items bytes_of, c.len.ensures, c.tiles-most.ensures.value, c.if-len-most.true),
    )

pub loop-end-preserved : goal.loop-end-preserved
loop-end-preserved c =
    record {
      cut = subst (AreCutAfter c.footer_length-footer.result c.args.payload.now c.in-Some.start)
          (sym (ap (map bytes_of) c.in_ok-push.ensures.items ∙ map-append bytes_of c.loop-end.slices.items _))
          (after_more _ _ _ _ c.loop-end.invariant.cut c.in-Some.start c.footer_length-footer.ensures.some c.in-Some.ensures.cut);
      few = grind (arith, common_steps, c.in_ok-push.ensures.items, c.loop-end.invariant.few, c.if-len-most.false, c.len.ensures);
    }

-- the place is the payload's start
at_start : (footer : ℕ) (payload : List ℕ) (q : ℕ) (later : List (List ℕ)) → q ≤ 0 → AreCutAfter footer payload q later → AreCutAfter footer payload 0 later
at_start footer payload q later le cut = subst (λ n. AreCutAfter footer payload n later) {x = q} {y = 0} (omega arith) cut

pub returns-then-is_empty-clause-err : goal.returns-then-is_empty-clause-err
returns-then-is_empty-clause-err c =
    inr (
      refl,
      λ slices are.
          let later = map bytes_of c.loop-end.slices.items in
          let once = cut_once _ _ later (at_start _ _ _ later c.loop-end-test.false c.loop-end.invariant.cut) c.footer_length-footer.ensures.some slices
          (subst (λ n. AreCutAt n c.args.payload.now (length c.args.payload.now) slices) (sym c.footer_length-footer.ensures.value) are.cut) in
          let some = are.some in
          let empty : length c.loop-end.slices.items ≡ 0 = grind (arith, common_steps, c.if-is_empty.ensures) in
          omega (arith, some, ap length once, length-reverse later, length-map c.loop-end.slices.items bytes_of, empty),
    )

pub returns-clause-ok : goal.returns-clause-ok
returns-clause-ok c =
    let later = map bytes_of c.loop-end.slices.items in
    let cut = all_cut _ _ later (at_start _ _ _ later c.loop-end-test.false c.loop-end.invariant.cut) in
    let same : map bytes_of c.reverse.new.self.items ≡ reverse later = ap (map bytes_of) c.reverse.ensures.items ∙ map-reverse bytes_of c.loop-end.slices.items in
    let some : 1 ≤ length c.loop-end.slices.items = grind (arith, common_steps, c.if-is_empty.ensures) in
    rw same (record {
      cut = subst (λ n. AreCutAt n c.args.payload.now (length c.args.payload.now) (reverse later)) c.footer_length-footer.ensures.value cut;
      some = omega (arith, length-reverse later, length-map c.loop-end.slices.items bytes_of, some);
      few = omega (arith, length-reverse later, length-map c.loop-end.slices.items bytes_of, c.loop-end.invariant.few, c.tiles-most.ensures.value, ap tile_count c.grid.ensures);
    })
