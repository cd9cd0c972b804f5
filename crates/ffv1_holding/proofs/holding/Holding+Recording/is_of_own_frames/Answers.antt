use Rattle.std.proofs.Common.{◌≡◌, ℕ, ◌<◌, ◌≤◌, List, Ok, true, length, get_or, sym, ap, ◌∙◌, subst, arith, rules, ◌⊎◌, inl, inr}
use Rattle.std.proofs.lemmas.Bool.{cases_lt}
use Rattle.std.proofs.lemmas.List.{get_or_default}
use Rattle.ffv1_range.specs.TileHeaders.{rules_of}
use Rattle.ffv1_slice.specs.Slices.{IsSliceOf}
use Rattle.ffv1_holding.specs.Sets as set
use Rattle.ffv1_holding.specs.SliceOrder.{bytes_cmp}
use Rattle.ffv1_holding.specs.Contents.{AreOwnEntries}
use Rattle.ffv1_holding.specs.HoldingParts.{contents}
use Rattle.ffv1_holding.proofs.RisingSets.{size-items}
use Rattle.ffv1_holding.proofs.OwnFrames.{FirstsAreOf, own_held, firsts_are, read_first}
use Rattle.ffv1_holding.proofs.holding.Holding+Recording.is_of_own_frames.Goals as goal

pub returns-then-is_err-clause-other : goal.returns-then-is_err-clause-other
returns-then-is_err-clause-other c =
    λ entries.
    let rules' = rules_of c.recording-recording.result.now in
    let slices = c.self.inside.held.slices in
    let place = c.loop-place.place in
    let all = subst AreOwnEntries (sym c.self.view_is) entries in
    let firsts : FirstsAreOf rules' slices = firsts_are rules' slices (all _ c.recording-recording.ensures.own) in
    let lent : (i : ℕ) (d : List ℕ) → i < set.size c.of_tile-firsts.result → IsSliceOf rules' (get_or (set.items c.of_tile-firsts.result) i d) true 0 =
    subst (λ (s : set.SetOf bytes_cmp). (i : ℕ) (d : List ℕ) → i < set.size s → IsSliceOf rules' (get_or (set.items s) i d) true 0)
    (sym c.of_tile-firsts.ensures) firsts in
    let here : IsSliceOf rules' c.get.result.now true 0 =
    subst (λ slice. IsSliceOf rules' slice true 0) (sym c.get.ensures.value)
    (lent place c.get.result.now (omega (arith, c.loop-place-test.true, c.len-place-end.ensures))) in
    let read : c.read_slice.result ≡ Ok 0 = c.read_slice.ensures.only 0 here in
    absurd (search rules)

pub loop-place-preserved : goal.loop-place-preserved
loop-place-preserved c =
    λ i d lt.
    let rules' = rules_of c.recording-recording.result.now in
    let place = c.loop-place.place in
    let items = set.items c.of_tile-firsts.result in
    let here = read_first rules' c.get.result.now c.read_slice.result (sym c.is_err.ensures.value ∙ c.if-is_err.false) c.read_slice.ensures.found in
    let in_range : place < length items = omega (arith, c.loop-place-test.true, c.len-place-end.ensures, size-items c.of_tile-firsts.result) in
    let at = c.get.ensures.value ∙ get_or_default items place c.get.result.now d in_range in
    let step : (i < place) ⊎ (place ≤ i) → IsSliceOf rules' (get_or items i d) true 0 =
    elim [
      | inl before ↦ c.loop-place.invariant i d before
      | inr after ↦
          let same : place ≡ i = omega (arith, lt) in
          subst (λ slice. IsSliceOf rules' slice true 0) (at ∙ ap (λ k. get_or items k d) same) here
    ] in
    step (cases_lt i place)

pub returns-clause-own : goal.returns-clause-own
returns-clause-own c =
    λ yes.
    let rules' = rules_of c.recording-recording.result.now in
    let firsts : FirstsAreOf rules' c.self.inside.held.slices =
    subst (λ (s : set.SetOf bytes_cmp). (i : ℕ) (d : List ℕ) → i < set.size s → IsSliceOf rules' (get_or (set.items s) i d) true 0)
    c.of_tile-firsts.ensures (λ i d lt. c.loop-place.invariant i d (omega (arith, lt, c.loop-place-test.false, c.len-place-end.ensures))) in
    subst AreOwnEntries c.self.view_is (own_held (contents c.self.inside) _ c.recording-recording.ensures.own c.self.invariant.slices firsts)
