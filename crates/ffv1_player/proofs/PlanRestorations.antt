-- What plans for any recording come to.
use Rattle.std.proofs.Common.{◌≡◌, ℕ, List, sym, ap, subst, ◌∙◌}
use Rattle.ffv1_holding.specs.Contents.{Contents, holding_of, HasSameCopies}
use Rattle.ffv1_holding.specs.Originals.{HoldsExactly}
use Rattle.ffv1_holding.specs.declared.recordings.Recordings.{Recordings}
use Rattle.ffv1_holding.proofs.ContentsLaws.{holding_of-same}
use Rattle.ffv1_holding.proofs.ExactlyHeld.{exactly_held}
use Rattle.ffv1_hold.specs.Plans.{copies_of}
use Rattle.ffv1_hold.specs.declared.plan.Plan.{Plan}
use Rattle.ffv1_hold.proofs.PlanSteps.{one_reel}
use Rattle.ffv1_hold.specs.Restorations.{AreEqualInAll, IsPlanFor}
use Rattle.ffv1_hold.proofs.Restorations.{same_in_all}
use Rattle.ffv1_player.specs.Restored.{IsHoldingFor}

-- plans of the same copies come to equal holdings
pub equal_in_all : (recordings : Recordings) (config : List ℕ) (width height : ℕ) (plan other : Plan) (a b : Contents)
    → IsHoldingFor recordings config width height plan a → IsHoldingFor recordings config width height other b
    → HasSameCopies (copies_of plan) (copies_of other) → AreEqualInAll a b
equal_in_all recordings config width height plan other a b is also same =
    let e : a ≡ b = is.meaning ∙ ap (λ r. holding_of r (copies_of plan)) (one_reel recordings config width height a.reel b.reel is.reel also.reel)
    ∙ holding_of-same b.reel (copies_of plan) (copies_of other) same ∙ sym also.meaning in
    let P : Contents → Type 0 = λ h. AreEqualInAll a h in
    subst P e (same_in_all a)

-- of copies of an original just its slices are held
pub held_exactly : (plan : Plan) (h : Contents) → h ≡ holding_of h.reel (copies_of plan) → (original : List ℕ) (slices : List (List ℕ))
    → IsPlanFor h.reel.rules plan original slices → HoldsExactly h slices
held_exactly plan h meaning original slices for =
    let P : Contents → Type 0 = λ g. HoldsExactly g slices in
    subst P (sym meaning) (exactly_held h.reel slices (copies_of plan) for.are_copies)
