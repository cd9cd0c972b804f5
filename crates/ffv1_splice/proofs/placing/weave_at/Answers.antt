use Rattle.std.proofs.lemmas.Grind.{common_steps}
use Rattle.ffv1_splice.proofs.Common.{◌≡◌, ◌-◌, ◌≤◌, length, refl, ap, subst, ◌∙◌, inl, inr, arith, IsWeaveOf, weave_tally, woven, disputed, missing, Slice, written, versions_at, IsWeaveAt, IsGap, Disputed, values_of, each_value}
use Rattle.ffv1_splice.proofs.PlaceSteps.{gap_size, stands_weave, placed_as}
use Rattle.ffv1_splice.proofs.Versions.{version_length, one_length, weave_size}
use Rattle.ffv1_splice.proofs.placing.weave_at.Goals as goal
use Rattle.ffv1_splice.proofs.placing.weave_at.Goals.{in-Missing, in-TooMany}

pub weave-requires-clause-lengths : goal.weave-requires-clause-lengths
weave-requires-clause-lengths c =
    one_length (versions_at (values_of c.args.copies.now) c.args.start c.args.end) (c.args.end - c.args.start)
    (version_length (values_of c.args.copies.now) c.args.start c.args.end (omega arith)
    (each_value c.args.copies.now (λ copy. c.args.end ≤ length copy) c.requires.within)) c.as_slice-versions.result.now
    (ap values_of c.as_slice-versions.ensures.value ∙ c.in_ok-versions.ensures)

pub write_at-requires : goal.write_at-requires
write_at-requires c =
    let is : values_of c.as_slice-versions.result.now ≡ versions_at (values_of c.args.copies.now) c.args.start c.args.end =
    ap values_of c.as_slice-versions.ensures.value ∙ c.in_ok-versions.ensures in
    let weave : IsWeaveOf Slice (values_of c.as_slice-versions.result.now) (woven c.in-Woven.bytes.items c.in-Woven.count) =
    subst (λ o. IsWeaveOf Slice (values_of c.as_slice-versions.result.now) (weave_tally o)) c.in-Woven.is c.in_ok-bytes.ensures in
    let size = weave_size (values_of c.args.copies.now) c.args.start c.args.end c.in-Woven.bytes.items c.in-Woven.count
    (each_value c.args.copies.now (λ copy. c.args.end ≤ length copy) c.requires.within)
    (record {
      none = c.requires.none;
      claim = c.requires.claim;
      weave' = subst (λ vs. IsWeaveOf Slice vs (woven c.in-Woven.bytes.items c.in-Woven.count)) is weave;
    }) in
    omega arith

pub returns-in-Woven : goal.returns-in-Woven
returns-in-Woven c =
    let is : values_of c.as_slice-versions.result.now ≡ versions_at (values_of c.args.copies.now) c.args.start c.args.end =
    ap values_of c.as_slice-versions.ensures.value ∙ c.in_ok-versions.ensures in
    let weave : IsWeaveOf Slice (values_of c.as_slice-versions.result.now) (woven c.in-Woven.bytes.items c.in-Woven.count) =
    subst (λ o. IsWeaveOf Slice (values_of c.as_slice-versions.result.now) (weave_tally o)) c.in-Woven.is c.in_ok-bytes.ensures in
    let at : IsWeaveAt (values_of c.args.copies.now) c.args.start c.args.end (woven c.in-Woven.bytes.items c.in-Woven.count) =
    grind (arith, common_steps, woven) in
    record {
      bytes = c.in-Woven.bytes.items;
      ends = refl;
      stands = inl at;
      size = weave_size (values_of c.args.copies.now) c.args.start c.args.end c.in-Woven.bytes.items c.in-Woven.count
          (each_value c.args.copies.now (λ copy. c.args.end ≤ length copy) c.requires.within) at;
      written' = c.write_at.ensures ∙ ap (written c.args.payload.now c.args.start) c.as_slice.ensures.value;
    }

pub returns-in-Disputed : goal.returns-in-Disputed
returns-in-Disputed c =
    let is : values_of c.as_slice-versions.result.now ≡ versions_at (values_of c.args.copies.now) c.args.start c.args.end =
    ap values_of c.as_slice-versions.ensures.value ∙ c.in_ok-versions.ensures in
    let weave : IsWeaveOf Slice (values_of c.as_slice-versions.result.now) disputed = grind (arith, common_steps, values_of, weave_tally) in
    let at = stands_weave (values_of c.args.copies.now) c.args.start c.args.end disputed c.requires.none c.requires.claim
    (subst (λ vs. IsWeaveOf Slice vs disputed) is weave) in
    let gap : IsGap (values_of c.args.copies.now) c.args.start c.args.end c.least_at.result.now = grind (arith, common_steps) in
    placed_as (values_of c.args.copies.now) c.args.start c.args.end c.args.payload.now c.write_at-in-Disputed.new.payload c.least_at.result.now Disputed
    (inr at, gap)
    (gap_size (values_of c.args.copies.now) c.args.start c.args.end c.least_at.result.now
    (each_value c.args.copies.now (λ copy. c.args.end ≤ length copy) c.requires.within) gap) c.write_at-in-Disputed.ensures

pub unwoven_at-requires-clause-missed : goal.unwoven_at-requires-clause-missed
unwoven_at-requires-clause-missed c all =
    let is : values_of c.as_slice-versions.result.now ≡ versions_at (values_of c.args.copies.now) c.args.start c.args.end =
    ap values_of c.as_slice-versions.ensures.value ∙ c.in_ok-versions.ensures in
    elim c.match-branch-3.branch [
      | in-Missing w ↦
          let weave : IsWeaveOf Slice (values_of c.as_slice-versions.result.now) (missing w.in-Missing.field-0) =
          subst (λ o. IsWeaveOf Slice (values_of c.as_slice-versions.result.now) (weave_tally o)) w.in-Missing.is c.in_ok-bytes.ensures in (
            w.in-Missing.field-0,
            stands_weave (values_of c.args.copies.now) c.args.start c.args.end (missing w.in-Missing.field-0) c.requires.none c.requires.claim
                (subst (λ vs. IsWeaveOf Slice vs (missing w.in-Missing.field-0)) is weave),
          )
      | in-TooMany w ↦ let untried = w.all_tried-is in absurd (cc)
    ]
