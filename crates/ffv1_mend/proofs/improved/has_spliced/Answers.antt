use Rattle.std.proofs.Common.{◌≡◌, ◌+◌, ◌<◌, ℕ, List, length, get_or, refl, sym, ap, ◌∙◌, subst}
use Rattle.std.specs.Prelude.{slice_range}
use Rattle.std.proofs.lemmas.List.{get_or_default}
use Rattle.ffv1_splice.specs.declared.place.Place.{Place}
use Rattle.ffv1_splice.specs.declared.place.Standing.TheVariants.{Settled}
use Rattle.ffv1_mend.proofs.PartSteps.{place_given, place_not_given}
use Rattle.ffv1_mend.proofs.improved.has_spliced.Goals as goal
use Rattle.ffv1_mend.proofs.improved.has_spliced.Goals.{else-is_given-via-then-is_given+else-not-has_at, else-is_given-via-else-is_given}

pub loop-place-preserved : goal.loop-place-preserved
loop-place-preserved c =
    let none : Place = record { start = 0; end = 0; standing = Settled } in
    let version : List ℕ = c.args.version.now in
    let payload : List ℕ = c.args.spliced.now.payload in
    let places : List Place = c.args.spliced.now.places in
    let i : ℕ = c.loop-place.place-index in
    let place : Place = get_or c.places-place-items.result.now i none in
    let lt : i < length places = subst (λ ps. i < length ps) c.places-place-items.ensures c.loop-place-test.true in
    let is : get_or places i place ≡ place = get_or_default places i place none lt ∙ ap (λ ps. get_or ps i none) (sym c.places-place-items.ensures) in
    elim c.else-is_given.branch [
      | else-is_given-via-then-is_given+else-not-has_at w ↦
          place_given c.args.part payload places version i place lt is version version (slice_range c.payload.result.now place.start place.end)
          (c.args.part.start + place.start) (sym c.is_given.ensures ∙ w.if-is_given.true) c.loop-place.invariant refl
          (ap (λ z. slice_range z place.start place.end) c.payload.ensures) (sym (w.has_at.ensures w.if-not-has_at.false))
      | else-is_given-via-else-is_given w ↦
          place_not_given c.args.part payload places version i place lt is version (sym c.is_given.ensures ∙ w.if-is_given.false) c.loop-place.invariant
    ]
