use Rattle.std.proofs.lemmas.Grind.{common_steps}
use Rattle.ffv1_splice.proofs.Common.{◌≤◌, length, refl, inl, arith, IsOnly, IsPiece, IsClaimedStart, claimed_tally, values_of, each_value}
use Rattle.ffv1_splice.proofs.PlaceSteps.{two_not_only, two_not_none, no_claim, least_size, claim_below}
use Rattle.ffv1_splice.proofs.placing.disputed_before.Goals as goal

pub returns-in_default : goal.returns-in_default
returns-in_default c = (
  record {
    unsettled = two_not_only (IsPiece (values_of c.args.copies.now) c.args.end) c.requires.two;
    no_claim = no_claim (IsClaimedStart (values_of c.args.copies.now) c.args.end) c.args.starts c.requires.claim c.in_default.not-One;
    unclaimed = λ bytes count front. two_not_none (IsPiece (values_of c.args.copies.now) c.args.end) c.requires.two front.none;
    unwoven = λ start bytes count several. two_not_none (IsPiece (values_of c.args.copies.now) c.args.end) c.requires.two several.none;
  },
  refl,
)

pub returns : goal.returns
returns c =
    let claim : IsOnly (IsClaimedStart (values_of c.args.copies.now) c.args.end) c.in-One.start = grind (arith, common_steps, values_of, claimed_tally) in
    let below = claim_below (values_of c.args.copies.now) c.in-One.start c.args.end claim.there in
    record {
      bytes = c.least_at.result.now;
      ends = refl;
      stands = (inl c.requires.two, record { claim = claim; least = c.least_at.ensures });
      size = least_size (values_of c.args.copies.now) c.in-One.start c.args.end c.least_at.result.now
          (each_value c.args.copies.now (λ copy. c.args.end ≤ length copy) c.requires.within) (omega arith) c.least_at.ensures;
      written' = c.write_at.ensures;
    }
