use Rattle.std.proofs.Common.{◌<◌, ℕ, List, length, map, ap, sym, subst, arith, inl, inr}
use Rattle.std.specs.Prelude.{◌⊎◌}
use Rattle.ffv1_slice.specs.Members.{IsOnly}
use Rattle.ffv1_weave.specs.References.{values_of}
use Rattle.ffv1_mend.specs.Content.{content_bytes}
use Rattle.ffv1_mend.specs.Passing.{IsPassing}
use Rattle.ffv1_mend.specs.Improved.{PartValue, part_value}
use Rattle.ffv1_mend.specs.Mended.{ElementStands, IsElementMend}
use Rattle.ffv1_weave.specs.declared.check.Check.TheVariants.{Element}
use Rattle.ffv1_mend.proofs.Fitting.{fit_as_lent}
use Rattle.ffv1_mend.proofs.ElementSteps.{not_one_passes, not_whole_in_all}
use Rattle.ffv1_mend.proofs.element.mend_element.Goals as goal
use Rattle.ffv1_mend.proofs.element.mend_element.Goals.{in-One+else-versions-eq1, in_default}

pub standing-requires-clause-fit : goal.standing-requires-clause-fit
standing-requires-clause-fit c =
    fit_as_lent c.args.versions.now c.args.from.now c.args.parts.now (map part_value c.in_ok-mends.mends.items) (map part_value c.as_slice.result.now) c.requires.some c.requires.lengths
    c.requires.parts c.in_ok-mends.ensures (ap (map part_value) c.as_slice.ensures.value)

pub returns : goal.returns
returns c =
    let mends : List PartValue = map part_value c.in_ok-mends.mends.items in
    let reason : (1 < length c.args.versions.now) ⊎ ((version : List ℕ) → IsOnly (IsPassing Element (values_of c.args.versions.now)) version → ⊥) =
    elim c.match-passing.branch [
      | in-One+else-versions-eq1 w ↦ inl (let not = w.if-versions-eq1.false in omega (arith, c.requires.some))
      | in_default w ↦ inr (not_one_passes Element (values_of c.args.versions.now) c.passing_of-passing.result c.passing_of-passing.ensures w.in_default.not-One)
    ] in
    let stands : ElementStands (values_of c.args.versions.now) c.args.from.now c.args.parts.now mends (content_bytes c.in_ok-state.content) c.in_ok-state.state =
    subst (λ ms. ElementStands (values_of c.args.versions.now) c.args.from.now c.args.parts.now ms (content_bytes c.in_ok-state.content) c.in_ok-state.state)
    (ap (map part_value) c.as_slice.ensures.value) c.in_ok-state.ensures in
    subst (IsElementMend (values_of c.args.versions.now) c.args.from.now c.args.parts.now) (sym c.new-2.ensures)
    (not_whole_in_all c.args.versions.now c.args.from.now c.args.parts.now c.in_ok-state.state (content_bytes c.in_ok-state.content) mends
    c.requires.once reason c.in_ok-mends.ensures stands)
