use Rattle.ffv1_weave.proofs.Common.{common_steps, ◌≡◌, ◌<◌, ℕ, List, length, true, false, arith, ◌⊎◌, le-ltb, false≢true, IsBoundary, values_of}
use Rattle.ffv1_weave.proofs.References.{length-values_of, each_value}
use Rattle.ffv1_weave.proofs.Agreeing.{agree_on}
use Rattle.ffv1_weave.proofs.BoundarySteps.{segment_after}
use Rattle.ffv1_weave.proofs.segments.segment_from.Goals as goal

pub returns-then-first-size-clause-part : goal.returns-then-first-size-clause-part
returns-then-first-size-clause-part c =
    agree_on (values_of c.args.versions.now) c.args.size c.args.from c.first_from-first.result
    (each_value c.args.versions.now (λ version. length version ≡ c.args.size) c.requires.lengths) (omega arith) c.first_from-first.ensures.until

pub returns-clause-part : goal.returns-clause-part
returns-clause-part c =
    let versions : List (List ℕ) = values_of c.args.versions.now in
    let distance : ℕ = c.args.distance in
    let first : ℕ = c.first_from-first.result in
    let found = c.first_from-first.ensures in
    let next = c.boundary_from.ensures in
    let start : ℕ = c.if-boundary.start in
    let yes : c.if-from-first.boundary ≡ true → IsBoundary distance versions first = grind (arith, common_steps, false≢true, le-ltb) in
    let no : c.if-from-first.boundary ≡ false → c.args.from < first → IsBoundary distance versions first → ⊥ = grind (arith, common_steps, false≢true) in
    let begins : (start ≡ c.args.from) ⊎ ((start ≡ first) × IsBoundary distance versions first) = grind (arith, common_steps) in
    let quiet : c.args.from < first → start ≡ c.args.from → IsBoundary distance versions first → ⊥ = grind (arith, common_steps) in
    segment_after distance versions c.args.size c.args.from first start c.boundary_from.result
    (each_value c.args.versions.now (λ version. length version ≡ c.args.size) c.requires.lengths)
    (omega (arith, c.requires.some, length-values_of c.args.versions.now)) c.requires.edge
    (record {
      below = omega (arith, found.within, c.if-first-size.false);
      beyond = found.beyond;
      until = found.until;
      begins = begins;
      boundary = quiet;
      after = omega (arith, next.beyond);
      within = next.within;
      quiet = λ i low lt. next.until i (omega arith) lt;
      there = next.there;
    })
