use Rattle.ffv1_weave.proofs.Common.{◌≡◌, List, ℕ, ◌+◌, arith, sym, subst, length, inl, inr, MatchBool, cases_lt, AgreeAt, DifferAt, values_of}
use Rattle.ffv1_weave.proofs.References.{each_value}
use Rattle.ffv1_weave.proofs.Agreeing.{agree_past}
use Rattle.ffv1_weave.proofs.RegionSteps.{IsEndSoFar, end_begins, end_stays, end_moves}
use Rattle.ffv1_weave.proofs.regions.end_from.Goals as goal
use Rattle.ffv1_weave.proofs.regions.end_from.Goals.{then-differ_at, else-differ_at}

pub loop-place-init : goal.loop-place-init
loop-place-init c = end_begins (values_of c.args.versions.now) c.args.start c.args.size c.requires.within c.requires.first

pub loop-place-preserved : goal.loop-place-preserved
loop-place-preserved c =
    let versions : List (List ℕ) = values_of c.args.versions.now in
    elim c.if-differ_at.branch [
      | then-differ_at w ↦
          let differ : DifferAt versions c.loop-place.place =
          subst (λ b. MatchBool b (DifferAt versions c.loop-place.place) (AgreeAt versions c.loop-place.place)) w.if-differ_at.true c.differ_at.ensures in
          subst (λ e. IsEndSoFar versions c.args.start e (c.loop-place.place + 1) c.args.size) (sym w.end-is)
          (end_moves versions c.args.start c.loop-place.end c.loop-place.place c.args.size (omega arith) (omega arith) differ c.loop-place.invariant)
      | else-differ_at w ↦
          let agree : AgreeAt versions c.loop-place.place =
          subst (λ b. MatchBool b (DifferAt versions c.loop-place.place) (AgreeAt versions c.loop-place.place)) w.if-differ_at.false c.differ_at.ensures in
          subst (λ e. IsEndSoFar versions c.args.start e (c.loop-place.place + 1) c.args.size) (sym w.end-is)
          (end_stays versions c.args.start c.loop-place.end c.loop-place.place c.args.size (omega arith) agree c.loop-place.invariant)
    ]

pub returns-after-loop-place-clause-after : goal.returns-after-loop-place-clause-after
returns-after-loop-place-clause-after c = λ i low near.
    elim (cases_lt i c.loop-place.place) [
      | inl below ↦ c.loop-place.invariant.quiet i low below
      | inr above ↦ agree_past (values_of c.args.versions.now) c.args.size i
          (each_value c.args.versions.now (λ version. length version ≡ c.args.size) c.requires.lengths) (omega arith)
    ]
