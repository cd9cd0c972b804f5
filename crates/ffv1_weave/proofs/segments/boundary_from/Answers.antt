use Rattle.ffv1_weave.proofs.Common.{◌≡◌, arith, subst, inl, inr, cases_lt, IsBoundary, values_of}
use Rattle.ffv1_weave.proofs.segments.boundary_from.Goals as goal

pub loop-place-preserved : goal.loop-place-preserved
loop-place-preserved c =
    let before = c.loop-place.invariant in
    let next = c.after_place-place.ensures in (
      omega (arith, before.0, next.beyond),
      next.within,
      λ i low lt boundary. elim (cases_lt c.loop-place.place i) [
        | inl past ↦ next.until c.args.distance i past lt boundary
        | inr near ↦ elim (cases_lt i c.loop-place.place) [
          | inl below ↦ before.2 i low below boundary
          | inr above ↦ let same : i ≡ c.loop-place.place = omega arith in let no =
              c.is_boundary.ensures.1 (subst (IsBoundary c.args.distance (values_of c.args.versions.now)) same boundary) in absurd (cc)
        ]
      ],
    )
