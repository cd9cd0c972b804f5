-- What a holding that is filed says of the one that it is filed of.
use Rattle.std.proofs.Common.{◌≡◌, ℕ, Bool, true, false, ◌||◌, ◌⊎◌, List, inl, inr, refl, sym, ap, ◌∙◌, subst}
use Rattle.std.specs.Prelude.{if◌then◌else◌}
use Rattle.ffv1_range.specs.TileHeaders.{TileRules}
use Rattle.ffv1_range.specs.declared.frames.Frames.TheVariants as frames
use Rattle.ffv1_holding.specs.Sets as set
use Rattle.ffv1_holding.specs.SliceOrder.{entry_cmp, entries_total}
use Rattle.ffv1_holding.specs.Reels.{Reel, IsRecordReel, IsOwnReel, IsReel, in_frames}
use Rattle.ffv1_holding.specs.Contents.{Contents, IsHolding, AreEntriesOf, AreOwnEntries, with_reel, joined}
use Rattle.ffv1_holding.specs.declared.recordings.Recordings.{Recordings}
use Rattle.ffv1_holding.specs.declared.recordings.Recordings.TheVariants.{Profile, Any}
use Rattle.ffv1_holding.proofs.Reels.{own_one}
use Rattle.ffv1_holding.proofs.OwnFrames.{own_all}
use Rattle.ffv1_hold.specs.UnitedHoldings.{reel_of_both, united}
use Rattle.ffv1_hold.proofs.PlanSteps.{one_reel, reel_of_record}
use Rattle.ffv1_commands.specs.TakenFrames.{frames_of, in_taken_frames, as_taken, IsTakenReel, IsFiled}

-- ---- reels of the frames that are taken

module _ (recordings : Recordings) (config : List ℕ) (width height : ℕ) where
  pub taken_own : (reel : Reel) (is : IsTakenReel recordings config width height reel) → IsOwnReel is.0 reel
  taken_own reel is = (reel_of_record recordings config width height is.0 is.1, (frames_of recordings, is.2))

  pub taken_is_reel : (reel : Reel) → IsTakenReel recordings config width height reel → IsReel reel
  taken_is_reel reel is = (is.0, taken_own reel is)

  -- a record and a size are those of one
  pub one_taken : (r s : Reel) → IsTakenReel recordings config width height r → IsTakenReel recordings config width height s → r ≡ s
  one_taken r s is also =
      is.2 ∙ ap (in_taken_frames recordings) (one_reel recordings config width height is.0 also.0 is.1 also.1) ∙ sym also.2

-- frames that are taken are so again
taken_again : (recordings : Recordings) (reel : Reel) → in_taken_frames recordings (in_taken_frames recordings reel) ≡ in_taken_frames recordings reel
taken_again Profile reel = refl
taken_again Any reel = refl

-- ---- one holding

module _ (recordings : Recordings) (h : Contents) (own : Reel) (is : IsRecordReel own) (reel : h.reel ≡ in_taken_frames recordings own) where
  of_own : IsOwnReel own h.reel
  of_own = (is, (frames_of recordings, reel))

  -- what is filed by the record's own rules is of its own reel
  pub own_back : (r : Reel) → IsOwnReel r h.reel → r ≡ own
  own_back r of = own_one h.reel r own of of_own

  -- as it is taken, what is filed is what it is filed of
  pub taken_back : (filed : Contents) → IsFiled h filed → as_taken recordings filed ≡ h
  taken_back filed (inl (entries, of, same)) =
      ap (as_taken recordings) same ∙ ap (λ r. with_reel h (in_taken_frames recordings r)) (own_back filed.reel of) ∙ ap (with_reel h) (sym reel)
  taken_back filed (inr (other, same)) =
      ap (as_taken recordings) same ∙ ap (with_reel h) (ap (in_taken_frames recordings) reel ∙ taken_again recordings own ∙ sym reel)

-- a holding of the profile is filed as it is
pub profile_filed : (h filed : Contents) (own : Reel) → IsRecordReel own → h.reel ≡ own → IsFiled h filed → filed ≡ h
profile_filed h filed own is reel of = taken_back Profile h own is reel filed of

-- its slices are those of its record's own rules
pub profile_entries : (h : Contents) (own : Reel) → IsRecordReel own → h.reel ≡ own → IsHolding h → AreOwnEntries h
profile_entries h own is reel holding =
    own_all h own (is, (frames.Ruled, reel)) (subst (λ (r : Reel). AreEntriesOf r.rules h.slices) reel holding.slices)

-- ---- two holdings of the same slices

module _ (g h : Contents) (own : Reel) (of_g : IsOwnReel own g.reel) (of_h : IsOwnReel own h.reel) (slices : g.slices ≡ h.slices)
    (origins : g.origins ≡ h.origins) where
  own_alike : AreOwnEntries g → AreOwnEntries h
  own_alike entries = own_all h own of_h (subst (AreEntriesOf own.rules) slices (entries own of_g))

  own_alike_back : AreOwnEntries h → AreOwnEntries g
  own_alike_back entries = own_all g own of_g (subst (AreEntriesOf own.rules) (sym slices) (entries own of_h))

  alike : (r s : Reel) → r ≡ s → with_reel g r ≡ with_reel h s
  alike r s same = λ i. record { reel = same i; slices = slices i; origins = origins i }

  -- they are filed alike, where those that are filed as they are have one reel
  pub filed_alike : (a b : Contents) → IsFiled g a → IsFiled h b → (¬ AreOwnEntries g → ¬ AreOwnEntries h → g.reel ≡ h.reel) → a ≡ b
  filed_alike a b (inl (entries, is_a, a_is)) (inl (more, is_b, b_is)) same =
      a_is ∙ alike a.reel b.reel (own_one g.reel a.reel own is_a of_g ∙ sym (own_one h.reel b.reel own is_b of_h)) ∙ sym b_is
  filed_alike a b (inl (entries, is_a, a_is)) (inr (other, b_is)) same = absurd (other (own_alike entries))
  filed_alike a b (inr (other, a_is)) (inl (entries, is_b, b_is)) same = absurd (other (own_alike_back entries))
  filed_alike a b (inr (other, a_is)) (inr (another, b_is)) same = a_is ∙ alike g.reel h.reel (same other another) ∙ sym b_is

-- ---- the union of two

-- entries of a union are entries of both
or_left : (a b : Bool) → a ≡ true → (a || b) ≡ true
or_left a b is = ap (λ x. x || b) is

or_right : (a b : Bool) → b ≡ true → (a || b) ≡ true
or_right true b is = refl
or_right false b is = is

either : (a b : Bool) → (a || b) ≡ true → (a ≡ true) ⊎ (b ≡ true)
either true b is = inl refl
either false b is = inr is

module _ (rules : TileRules) (a b : set.SetOf entry_cmp) where
  both_entries : AreEntriesOf rules a → AreEntriesOf rules b → AreEntriesOf rules (set.union a b)
  both_entries left right e held =
      elim (either (set.contains a e) (set.contains b e) (sym (set.contains-union entries_total a b e) ∙ held)) [ inl there ↦ left e there | inr there ↦ right e there ]

  left_entries : AreEntriesOf rules (set.union a b) → AreEntriesOf rules a
  left_entries all e held = all e (set.contains-union entries_total a b e ∙ or_left (set.contains a e) (set.contains b e) held)

  right_entries : AreEntriesOf rules (set.union a b) → AreEntriesOf rules b
  right_entries all e held = all e (set.contains-union entries_total a b e ∙ or_right (set.contains a e) (set.contains b e) held)

-- the reel of both, where one is of the frames that are taken
both_same : (r : Reel) → reel_of_both r r ≡ r
both_same r = elim r.rules.is_profile as (λ b. (if b then r else r) ≡ r) [ true ↦ refl | false ↦ refl ]

taken_right : (recordings : Recordings) (own : Reel) → reel_of_both own (in_taken_frames recordings own) ≡ in_taken_frames recordings own
taken_right Profile own = both_same own
taken_right Any own = refl

taken_left : (recordings : Recordings) (own : Reel) → reel_of_both (in_taken_frames recordings own) own ≡ in_taken_frames recordings own
taken_left Profile own = both_same own
taken_left Any own = by own.rules.is_profile refl
  where
    by : (b : Bool) → own.rules.is_profile ≡ b → (if b then in_frames frames.Any own else own) ≡ in_frames frames.Any own
    by true is = refl
    by false is = λ i. record {
      config = own.config;
      setup = own.setup;
      rules = record {
        is_profile = is i;
        has_codes = own.rules.has_codes;
        transitions = own.rules.transitions;
        has_alpha = own.rules.has_alpha;
        limits = own.rules.limits;
      };
    }

-- what is filed has the slices and origins that it is filed of
filed_parts : (h filed : Contents) → IsFiled h filed → filed ≡ with_reel h filed.reel
filed_parts h filed (inl (entries, of, same)) = same
filed_parts h filed (inr (other, same)) = same ∙ ap (with_reel h) (sym (ap (λ (k : Contents). k.reel) same))

module _ (recordings : Recordings) (g h : Contents) (own : Reel) (is : IsRecordReel own) (g_reel : g.reel ≡ in_taken_frames recordings own)
    (h_reel : h.reel ≡ in_taken_frames recordings own) where
  of_g : IsOwnReel own g.reel
  of_g = (is, (frames_of recordings, g_reel))

  of_h : IsOwnReel own h.reel
  of_h = (is, (frames_of recordings, h_reel))

  united_as : (a b : Contents) (r : Reel) → IsFiled g a → IsFiled h b → reel_of_both a.reel b.reel ≡ r → united a b ≡ with_reel (joined g h) r
  united_as a b r of also reel =
      (λ i. with_reel (joined (filed_parts g a of i) (filed_parts h b also i)) (reel_of_both a.reel b.reel)) ∙ ap (with_reel (joined g h)) reel

  reel_kept : (a k : Contents) → a ≡ k → k.reel ≡ in_taken_frames recordings own → a.reel ≡ in_taken_frames recordings own
  reel_kept a k same reel = ap (λ (x : Contents). x.reel) same ∙ reel

  -- the union of two that are filed is the union, as it is filed
  pub united_filed : (a b : Contents) → IsFiled g a → IsFiled h b → IsFiled (joined g h) (united a b)
  united_filed a b (inl (entries, is_a, a_is)) (inl (more, is_b, b_is)) =
      let reel : reel_of_both a.reel b.reel ≡ own =
      (λ i. reel_of_both (own_back recordings g own is g_reel a.reel is_a i) (own_back recordings h own is h_reel b.reel is_b i)) ∙ both_same own in
      inl (
        own_all (joined g h) own of_g (both_entries own.rules g.slices h.slices (entries own of_g) (more own of_h)),
        subst (λ r. IsOwnReel r g.reel) (sym reel) of_g,
        united_as a b (reel_of_both a.reel b.reel) (inl (entries, is_a, a_is)) (inl (more, is_b, b_is)) refl,
      )
  united_filed a b (inl (entries, is_a, a_is)) (inr (other, b_is)) =
      let reel : reel_of_both a.reel b.reel ≡ g.reel =
      (λ i. reel_of_both (own_back recordings g own is g_reel a.reel is_a i) (reel_kept b h b_is h_reel i)) ∙ taken_right recordings own ∙ sym g_reel in
      inr (
        λ all. other (own_all h own of_h (right_entries own.rules g.slices h.slices (all own of_g))),
        united_as a b g.reel (inl (entries, is_a, a_is)) (inr (other, b_is)) reel,
      )
  united_filed a b (inr (other, a_is)) (inl (more, is_b, b_is)) =
      let reel : reel_of_both a.reel b.reel ≡ g.reel =
      (λ i. reel_of_both (reel_kept a g a_is g_reel i) (own_back recordings h own is h_reel b.reel is_b i)) ∙ taken_left recordings own ∙ sym g_reel in
      inr (
        λ all. other (own_all g own of_g (left_entries own.rules g.slices h.slices (all own of_g))),
        united_as a b g.reel (inr (other, a_is)) (inl (more, is_b, b_is)) reel,
      )
  united_filed a b (inr (other, a_is)) (inr (another, b_is)) =
      let reel : reel_of_both a.reel b.reel ≡ g.reel =
      (λ i. reel_of_both (reel_kept a g a_is g_reel i) (reel_kept b h b_is h_reel i)) ∙ both_same (in_taken_frames recordings own) ∙ sym g_reel in
      inr (
        λ all. other (own_all g own of_g (left_entries own.rules g.slices h.slices (all own of_g))),
        united_as a b g.reel (inr (other, a_is)) (inr (another, b_is)) reel,
      )
