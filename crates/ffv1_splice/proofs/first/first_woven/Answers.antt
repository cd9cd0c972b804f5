use Rattle.ffv1_splice.proofs.Common.{◌≡◌, ◌-◌, ◌<◌, ◌^◌, ℕ, List, Vec, Global, map, subst, arith, IsOfNone, IsWeaveOf, weave_tally, woven, Slice, WeaveResult, same_versions_weave, values_of, HasContent, IsPiece, IsClaimedStart, versions_at, sized, IsWeaveFromFront}
use Rattle.ffv1_weave.specs.declared.weaving.WeaveResult.TheVariants as outcomes
use Rattle.ffv1_splice.proofs.FirstSlices.{stops_no_claim, not_woven}
use Rattle.ffv1_splice.proofs.first.first_woven.Goals as goal
use Rattle.ffv1_splice.proofs.first.first_woven.Goals.{then-end-le-FOOTER_LENGTH-via-then-end-le-FOOTER_LENGTH, then-end-le-FOOTER_LENGTH-via-else-end-le-FOOTER_LENGTH+then-end}

-- if the weave of the versions with their size is woven, it is a weave from the front
front_of : (copies : List (List ℕ)) (end : ℕ) → IsOfNone (IsPiece copies end) → IsOfNone (IsClaimedStart copies end) → HasContent 0 end
    → end - 8 < 2 ^ 24 → (outcome : WeaveResult) (bytes : Vec ℕ Global) (count : ℕ)
    → outcome ≡ outcomes.Woven bytes count → IsWeaveOf Slice (map sized (versions_at copies 0 end)) (weave_tally outcome) → IsWeaveFromFront copies end (woven bytes.items count)
front_of copies end none no_claim content short outcome bytes count is weave =
    record {
      none = none;
      no_claim = no_claim;
      content = content;
      short = short;
      weave' = subst (λ o. IsWeaveOf Slice (map sized (versions_at copies 0 end)) (weave_tally o)) is weave;
    }

pub returns-then-end-le-FOOTER_LENGTH : goal.returns-then-end-le-FOOTER_LENGTH
returns-then-end-le-FOOTER_LENGTH c =
    stops_no_claim (values_of c.args.copies.now) c.args.end c.requires.none c.requires.no_claim (λ bytes count front.
    let content : HasContent 0 c.args.end = front.content in
    let short : c.args.end - 8 < 2 ^ 24 = front.short in
    elim c.then-end-le-FOOTER_LENGTH.branch [
      | then-end-le-FOOTER_LENGTH-via-then-end-le-FOOTER_LENGTH w ↦ absurd (omega arith)
      | then-end-le-FOOTER_LENGTH-via-else-end-le-FOOTER_LENGTH+then-end w ↦ absurd (omega arith)
    ])

pub returns-in_default : goal.returns-in_default
returns-in_default c =
    let versions : List (List ℕ) = map sized (versions_at (values_of c.args.copies.now) 0 c.args.end) in
    let claim : IsWeaveOf Slice versions (weave_tally c.in_ok-bytes.field-0) = c.in_ok-bytes.ensures in
    stops_no_claim (values_of c.args.copies.now) c.args.end c.requires.none c.requires.no_claim (λ bytes count front.
    not_woven c.in_ok-bytes.field-0 c.in_default.not-Woven bytes count
    (same_versions_weave Slice versions versions (weave_tally c.in_ok-bytes.field-0) (woven bytes count)
    (λ version. ((λ there. there), λ there. there)) claim front.weave'))
