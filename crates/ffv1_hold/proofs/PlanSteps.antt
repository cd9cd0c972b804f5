-- One step of a plan.
use Rattle.ffv1_hold.proofs.Common.{◌≡◌, ℕ, Result, Ok, Err, IfOk, OnOk, List, [], ◌∷◌, ◌++◌, sym, ap, ◌∙◌, subst, arith, IfOk-weaker, Reel, IsReelOf, AreNear, HoldsExactly, near_exact, AreShort, contents, IsKept, Contents, IsHolding, IsSameReel, with_found, with_copies, joined, holding_of, with_found-holding_of, with_copies-holding_of, joined-holding_of, Recordings, Profile, IsSetupOf, true, one_record, IsRecordReel, reel_is, reel_of}
use Rattle.ffv1_range.proofs.ProfileLaws.{record_of_profile}
use Rattle.ffv1_holding.specs.declared.holding.Holding.TheInside.{Inside}

pub AreShort-both : (xs ys : List (List ℕ)) → AreShort xs → AreShort ys → AreShort (xs ++ ys)
AreShort-both [] ys few more = more
AreShort-both (x ∷ xs) ys few more = (few.0, AreShort-both xs ys few.1 more)

module _ (before after : Contents) (copies : List (List ℕ)) (is : before ≡ holding_of before.reel copies) where
  own_reel : (all : List (List ℕ)) → before.reel ≡ after.reel → holding_of before.reel all ≡ holding_of after.reel all
  own_reel all same = ap (λ r. holding_of r all) same

  pub after_found : (copy : List ℕ) → after ≡ with_found before copy → after ≡ holding_of after.reel (copies ++ copy ∷ [])
  after_found copy took = grind (arith, with_found-holding_of, own_reel)

  pub after_copies : (more : List (List ℕ)) → after ≡ with_copies before more → after ≡ holding_of after.reel (copies ++ more)
  after_copies more took = grind (arith, with_copies-holding_of, own_reel)

  pub after_joined : (other : Contents) (others : List (List ℕ)) → other ≡ holding_of other.reel others → IsSameReel before other
      → after ≡ joined before other → after ≡ holding_of after.reel (copies ++ others)
  after_joined other others other_is same took = grind (arith, joined-holding_of, own_reel)

  pub after_same : after ≡ before → after ≡ holding_of after.reel copies
  after_same same = same ∙ is ∙ own_reel copies (sym (ap (λ (h : Contents). h.reel) same))

-- the reel of a record is by its own rules
pub reel_of_record : (recordings : Recordings) (config : List ℕ) (width height : ℕ) (r : Reel) → IsReelOf recordings config width height r → IsRecordReel r
reel_of_record recordings config width height r is =
    subst IsRecordReel (sym is.2) (reel_is recordings config width height is.0 is.1)

-- a record and a size are those of one reel
pub one_reel : (recordings : Recordings) (config : List ℕ) (width height : ℕ) (r s : Reel) → IsReelOf recordings config width height r
    → IsReelOf recordings config width height s → r ≡ s
one_reel recordings config width height r s is also =
    is.2 ∙ ap (reel_of config) (one_record recordings config width height is.0 also.0 is.1 also.1) ∙ sym also.2

-- the reel of a record of the profile
module _ (config : List ℕ) (width height : ℕ) (reel : Reel) (is : IsReelOf Profile config width height reel) where
  pub reel_config : reel.config ≡ config
  reel_config = ap (λ (r : Reel). r.config) is.2

  pub reel_setup : IsSetupOf config width height reel.setup
  reel_setup = record { recording = is.0; record_of = is.1; is = ap (λ (r : Reel). r.setup) is.2 }

  pub reel_profile : reel.rules.is_profile ≡ true
  reel_profile = ap (λ (r : Reel). r.rules.is_profile) is.2 ∙ record_of_profile config width height is.0 is.1

-- what is held of near copies is the original's slices, where a holding is returned that is exactly what the copies give
pub near_of_meaning : {E : Type 0} (r : Result Contents E) (original : List ℕ) (slices copies : List (List ℕ))
    → IfOk r (λ h. h ≡ holding_of h.reel copies) → IfOk r (λ h. AreNear h.reel.rules original slices copies → HoldsExactly h slices)
near_of_meaning r original slices copies meaning = grind (arith, IfOk-weaker, near_exact)

-- what holds of the reel before a step that keeps it holds of the reel after
pub of_kept_reel : {E : Type 0} (r : Result Contents E) (Took : Contents → Type 0) (reel : Reel) → ((h : Contents) → Took h → h.reel ≡ reel)
    → (P : Reel → Type 0) → P reel → IfOk r Took → IfOk r (λ h. P h.reel)
of_kept_reel r Took reel keeps P holds = IfOk-weaker r Took (λ h. P h.reel) (λ h took. subst P (sym (keeps h took)) holds)

-- the same of a step that gives back the holding before it, where that is known to hold once it does
pub reel_on_same : {E : Type 0} (r : Result Contents E) (before : Contents) (Q : Type 0) (P : Reel → Type 0) → (Q → P before.reel)
    → IfOk r (λ h. h ≡ before) → OnOk r Q → IfOk r (λ h. P h.reel)
reel_on_same (Ok h) before Q P holds same known = subst P (sym (ap (λ (k : Contents). k.reel) same)) (holds known)
reel_on_same (Err e) before Q P holds same known = tt

-- what is kept of a holding makes it one
pub kept_is_holding : {S : Type 0} (a : Inside S) (h : Contents) → contents a ≡ h → IsKept a → IsHolding h
kept_is_holding a h is kept = grind arith
