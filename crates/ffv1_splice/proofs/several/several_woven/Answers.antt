use Rattle.ffv1_splice.proofs.Common.{subst, inr, values_of, IsPiece, IsClaimedStart, AreTriedBefore, tried_tally}
use Rattle.ffv1_splice.proofs.PlaceSteps.{none_not_only, two_not_only, two_not_none}
use Rattle.ffv1_splice.proofs.SeveralSteps.{several_of, none_of_several}
use Rattle.ffv1_splice.proofs.several.several_woven.Goals as goal

pub returns-in_default : goal.returns-in_default
returns-in_default c =
    record {
      unsettled = none_not_only (IsPiece (values_of c.args.copies.now) c.args.end) c.requires.none;
      no_claim = two_not_only (IsClaimedStart (values_of c.args.copies.now) c.args.end) c.requires.several;
      unclaimed = λ bytes count front. two_not_none (IsClaimedStart (values_of c.args.copies.now) c.args.end) c.requires.several front.no_claim;
      unwoven = none_of_several (values_of c.args.copies.now) c.args.end c.in_ok-start.field-0 c.in_default.not-Woven c.in_ok-start.ensures.tried;
    }

pub returns-in-Woven : goal.returns-in-Woven
returns-in-Woven c =
    inr (inr (several_of (values_of c.args.copies.now) c.args.end c.in-Woven.start c.in-Woven.count c.in-Woven.bytes.items c.in_ok-start.ensures.bytes
    c.requires.none c.requires.several
    (subst (λ t. AreTriedBefore (values_of c.args.copies.now) c.args.end c.args.end (tried_tally t)) c.in-Woven.is c.in_ok-start.ensures.tried)))
