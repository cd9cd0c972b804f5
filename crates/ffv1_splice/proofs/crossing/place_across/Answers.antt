use Rattle.std.proofs.lemmas.Grind.{common_steps}
use Rattle.ffv1_splice.proofs.Common.{◌≡◌, ◌-◌, ◌≤◌, ℕ, List, length, arith, refl, ap, ◌∙◌, subst, length-range, AllReach, IsLostUpTo, versions_at, values_of, each_value}
use Rattle.ffv1_splice.proofs.Versions.{version_length, length_of}
use Rattle.ffv1_splice.proofs.Crossings.{crossed_place}
use Rattle.ffv1_splice.proofs.crossing.place_across.Goals as goal

pub lost_up_to-requires : goal.lost_up_to-requires
lost_up_to-requires c = λ k d lt.
    let copies : List (List ℕ) = values_of c.args.copies.now in
    let start : ℕ = c.args.start in
    let end : ℕ = length c.args.payload.now in
    let reach : AllReach copies end = each_value c.args.copies.now (λ copy. end ≤ length copy) c.requires.long in
    let is : values_of c.as_slice.result.now ≡ versions_at copies start end = ap values_of c.as_slice.ensures.value ∙ c.in_ok-versions.ensures in
    let size = length_of (versions_at copies start end) (end - start) (version_length copies start end c.requires.within reach) c.as_slice.result.now is k d lt in
    omega arith

pub weave_at-requires-clause-within : goal.weave_at-requires-clause-within
weave_at-requires-clause-within c = λ k d lt.
    let copies : List (List ℕ) = values_of c.args.copies.now in
    let start : ℕ = c.args.start in
    let end : ℕ = length c.args.payload.now in
    let reach : AllReach copies end = each_value c.args.copies.now (λ copy. end ≤ length copy) c.requires.long in
    let is : values_of c.as_slice-2.result.now ≡ versions_at copies start end = ap values_of c.as_slice-2.ensures.value ∙ c.in_ok-versions.ensures in
    let size = length_of (versions_at copies start end) (end - start) (version_length copies start end c.requires.within reach) c.as_slice-2.result.now is k d lt in
    let within = c.in-Some.ensures.end'.there.within in
    omega arith

pub weave_at-requires-clause-none : goal.weave_at-requires-clause-none
weave_at-requires-clause-none c =
    let same : values_of c.as_slice.result.now ≡ values_of c.as_slice-2.result.now = grind (arith, common_steps, values_of) in
    (subst (λ versions. IsLostUpTo versions (length c.args.payload.now - c.args.start) c.in-Some.size) same c.in-Some.ensures).none

pub returns-clause-across : goal.returns-clause-across
returns-clause-across c =
    let copies : List (List ℕ) = values_of c.args.copies.now in
    let start : ℕ = c.args.start in
    let end : ℕ = length c.args.payload.now in
    let size : ℕ = c.in-Some.size in
    let is : values_of c.as_slice.result.now ≡ versions_at copies start end = ap values_of c.as_slice.ensures.value ∙ c.in_ok-versions.ensures in
    let is_too : values_of c.as_slice-2.result.now ≡ versions_at copies start end =
    ap values_of c.as_slice-2.ensures.value ∙ c.in_ok-versions.ensures in (
      refl,
      crossed_place copies (values_of c.as_slice-2.result.now) start end size c.args.payload.now _ c.weave_at.new.payload _ c.in_ok-standing.standing is_too
          c.requires.within (omega (arith, c.in-Some.ensures.end'.there.within, length-range c.args.payload.now start end c.requires.within (omega arith)))
          (rw (← is) c.in-Some.ensures) c.in_ok-standing.ensures,
    )
