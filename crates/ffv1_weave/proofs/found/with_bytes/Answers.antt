use Rattle.ffv1_weave.proofs.Common.{common_steps, subst, arith, rules, Decides-eqb, slice_eq-Decides, IsFoundAmong}
use Rattle.ffv1_weave.proofs.FoundSteps.{found_skipped, found_another, found_still}
use Rattle.ffv1_weave.proofs.found.with_bytes.Goals as goal

pub returns-then-not-passes : goal.returns-then-not-passes
returns-then-not-passes c = grind (arith, common_steps, found_skipped)

pub returns-else-eq : goal.returns-else-eq
returns-else-eq c = search (rules, found_another, slice_eq-Decides, Decides-eqb)

pub returns-in-Several : goal.returns-in-Several
returns-in-Several c = λ tried h. found_still c.args.check c.args.bytes.now tried (subst (IsFoundAmong c.args.check tried) c.in-Several.is h)
