use Rattle.ffv1_hold.proofs.Common.{◌≡◌, ◌<◌, ◌≤◌, ◌⊎◌, List, ℕ, [], length, get_or, true, arith, refl, inl, inr, sym, ap, ◌∙◌, subst, rules, cases_lt, get_or_default, size-items, tile_slices, RecordingValue, reel_of, rules_of, IsSliceOf, Reel, Contents, IsHolding, AreOwnEntries, IsOfAnyFrames, IsOwnReel, CanBeFirst, true≢false}
use Rattle.ffv1_holding.specs.Sets as set
use Rattle.ffv1_holding.proofs.OwnFrames.{own_held}
use Rattle.ffv1_hold.proofs.FirstSlices.{own_not_wide, wide_profile, refused_key, refused_between, own_keyframe}
use Rattle.ffv1_hold.proofs.HeldFirsts.{IsKeyframe, AreKeyframes, split_first, first_tells, between_is_first, profile_codes, own_untold}
use Rattle.ffv1_hold.proofs.TileTexts.{held_there}
use Rattle.ffv1_hold.proofs.firsts.tells_magic.Given.{Over}
use Rattle.ffv1_hold.proofs.firsts.tells_magic.Goals.{After-is_by_record, After-loop-place}
use Rattle.ffv1_hold.proofs.firsts.tells_magic.Goals as goal

own_is : (r s : Reel) (recording : RecordingValue) → r ≡ s → IsOwnReel (reel_of r.config recording) r → IsOwnReel (reel_of s.config recording) s
own_is r s recording same own = subst (λ (x : Reel). IsOwnReel (reel_of x.config recording) x) same own

module _ (g : Over) (c : After-is_by_record g) where
  in_range : c.loop-place.place < length (set.items (tile_slices c.args.holding.now.slices 0))
  in_range = omega (arith, c.loop-place-test.true, c.held-place-end.ensures, size-items (tile_slices c.args.holding.now.slices 0))

  -- the slice at the place, as one of the holding
  held_is : IsSliceOf c.args.holding.now.reel.rules c.slice.result.now true 0
  held_is = (c.reel.ensures.well_formed.slices (0, c.slice.result.now)
      (held_there c.args.holding.now 0 c.loop-place.place c.slice.result.now in_range c.slice.ensures)).slice

pub loop-place-preserved : goal.loop-place-preserved
loop-place-preserved g c i d lt =
    let h = c.args.holding.now in
    let items = set.items (tile_slices h.slices 0) in
    let place = c.loop-place.place in
    let recording = c.recording-recording.result.now in
    let by = c.is_by_record.ensures in
    let is_own = own_is c.reel-2.result.now h.reel recording c.reel-2.ensures.value c.recording-recording.ensures.own in
    let wide : IsOfAnyFrames h.reel = subst IsOfAnyFrames c.reel.ensures.value (c.is_of_any_frames.ensures.0 (search rules)) in
    let keyframe : c.is_by_record.result ≡ true = search rules in
    let here : IsKeyframe (rules_of recording) c.slice.result.now = (
      by.slice.0 keyframe,
      own_keyframe h.reel (reel_of h.reel.config recording) is_own wide c.slice.result.now c.is_by_record.result by.slice.1 by.slice.0 keyframe,
      by.bytes,
    ) in
    let same = c.slice.ensures ∙ get_or_default items place c.slice.result.now d (in_range g (goal.at.loop-place-preserved g c).After-is_by_record) in
    let step : (i < place) ⊎ (place ≤ i) → IsKeyframe (rules_of recording) (get_or items i d) =
    elim [
      | inl before ↦ c.loop-place.invariant i d before
      | inr after ↦
          let is : place ≡ i = omega (arith, lt) in
          subst (IsKeyframe (rules_of recording)) (same ∙ ap (λ k. get_or items k d) is) here
    ] in
    step (cases_lt i place)

pub returns-then-not-is_by_record-clause-tells : goal.returns-then-not-is_by_record-clause-tells
returns-then-not-is_by_record-clause-tells g c =
    let h = c.args.holding.now in
    let s = tile_slices h.slices 0 in
    let b = c.slice.result.now in
    let recording = c.recording-recording.result.now in
    let own = reel_of h.reel.config recording in
    let by = c.is_by_record.ensures in
    let is_own = own_is c.reel-2.result.now h.reel recording c.reel-2.ensures.value c.recording-recording.ensures.own in
    let wide : IsOfAnyFrames h.reel = subst IsOfAnyFrames c.reel.ensures.value (c.is_of_any_frames.ensures.0 (search rules)) in
    let earlier = (goal.at.returns-then-not-is_by_record-clause-tells g c).After-is_by_record in
    let lt = in_range g earlier in
    let is = held_is g earlier in
    let refused = c.if-not-is_by_record.true in
    let key = refused_key h.reel own is_own wide b c.is_by_record.result by.slice.1 by.slice.0 is refused in
    let first = between_is_first own.rules s c.loop-place.place b (profile_codes h.reel own is_own (wide_profile h.reel own is_own wide)) lt c.slice.ensures
    by.bytes key c.loop-place.invariant in
    let split = split_first (set.items s) c.loop-place.place lt in
    let at : get_or (set.items s) 0 [] ≡ b =
    ap (λ k. get_or (set.items s) k []) (sym first) ∙ sym (get_or_default (set.items s) c.loop-place.place b [] lt) ∙ sym c.slice.ensures in
    let can : CanBeFirst h.reel (0, get_or (set.items s) 0 []) =
    subst (λ (x : List ℕ). CanBeFirst h.reel (0, x)) (sym at)
    (λ _. (refl, refused_between h.reel own is_own wide b c.is_by_record.result by.slice.1 by.slice.0 is refused)) in
    (λ _. first_tells h c.reel.ensures.well_formed (get_or (set.items s) 0 []) split.0 split.1 can, λ _. refl)

-- where each slice of the first tile is of keyframes, all are by the record's own rules
all_own : (h : Contents) (recording : RecordingValue) → IsHolding h → IsOwnReel (reel_of h.reel.config recording) h.reel
    → AreKeyframes (rules_of recording) (set.items (tile_slices h.slices 0)) (set.size (tile_slices h.slices 0)) → AreOwnEntries h
all_own h recording is is_own all = own_held h (reel_of h.reel.config recording) is_own is.slices (λ i d lt. (all i d lt).0)

module _ (g : Over) (c : After-loop-place g) where
  ends_own : AreOwnEntries c.args.holding.now
  ends_own =
      let h = c.args.holding.now in
      let recording = c.recording-recording.result.now in
      all_own h recording c.reel.ensures.well_formed
      (own_is c.reel-2.result.now h.reel recording c.reel-2.ensures.value c.recording-recording.ensures.own)
      (λ i d lt. c.loop-place.invariant i d (omega (arith, lt, c.loop-place-test.false, c.held-place-end.ensures)))

pub returns-clause-tells : goal.returns-clause-tells
returns-clause-tells g c =
    let h = c.args.holding.now in
    let wide : IsOfAnyFrames h.reel = subst IsOfAnyFrames c.reel.ensures.value (c.is_of_any_frames.ensures.0 (search rules)) in
    (λ no. absurd (true≢false (sym no)), λ tells. absurd (own_untold h c.reel.ensures.well_formed wide (ends_own g c) tells))

pub returns-clause-between : goal.returns-clause-between
returns-clause-between g c none = absurd (none (ends_own g c))

-- a recording by its record's own rules is of no other frames
pub returns-clause-own : goal.returns-clause-own
returns-clause-own g c of =
    let r = c.args.holding.now.reel in
    let wide : IsOfAnyFrames r = subst IsOfAnyFrames c.reel.ensures.value (c.is_of_any_frames.ensures.0 (search rules)) in
    absurd (own_not_wide r of wide)

pub returns-then-not-is_by_record-clause-well_formed : goal.returns-then-not-is_by_record-clause-well_formed
returns-then-not-is_by_record-clause-well_formed g c = c.reel.ensures.well_formed
