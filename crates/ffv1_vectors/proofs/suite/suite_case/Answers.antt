use Rattle.std.proofs.Common.{Some, sym, ap, subst, ◌∙◌}
use Rattle.std.proofs.lemmas.Bool.{false≢true}
use Rattle.ffv1_vectors.specs.Suite.{IsCoarse}
use Rattle.ffv1_vectors.proofs.SuiteCases.{one_case}
use Rattle.ffv1_vectors.proofs.suite.suite_case.Goals as goal

pub returns-then-is_coarse-clause-found : goal.returns-then-is_coarse-clause-found
returns-then-is_coarse-clause-found c = λ case is coarse.
    ap Some (one_case c.args.tables c.args.number c.numbered_case-case.result case c.numbered_case-case.ensures is)

pub returns-else-is_coarse-clause-found : goal.returns-else-is_coarse-clause-found
returns-else-is_coarse-clause-found c = λ case is coarse.
    let there : IsCoarse c.numbered_case-case.result =
    subst IsCoarse (one_case c.args.tables c.args.number case c.numbered_case-case.result is c.numbered_case-case.ensures) coarse in
    absurd (false≢true (sym c.if-is_coarse.false ∙ c.is_coarse.ensures.1 there))
