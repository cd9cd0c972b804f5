use Rattle.std.proofs.Common.{ℕ, ◌+◌, Result, IfOk, IfErr, rules, subst}
use Rattle.std.proofs.lemmas.Fn.{always_returns_same}
use Rattle.ffv1_holding.specs.SliceOrder.{bytes_cmp, origin_cmp}
use Rattle.ffv1_holding.specs.Inner.Rising.{IsPlaceOf, IsInsertionPlace}
use Rattle.ffv1_holding.specs.Inner.Rows.{rows_of}
use Rattle.ffv1_holding.proofs.RowParts.{row_searched}
use Rattle.ffv1_holding.proofs.rows.place_of_row.Goals as goal

pub returns-in-Ok-clause-found : goal.returns-in-Ok-clause-found
returns-in-Ok-clause-found c =
    let r = c.args.rows in
    let facts = c.binary_search_by.ensures in
    let digest = c.args.digest.now in
    subst (λ (s : Result ℕ ℕ). IfOk s (λ i. IsPlaceOf (rows_of r) ((c.args.tile, c.args.slice.now), digest) (c.row_part-start.result.0 + i))) c.in-Ok.is
    (row_searched r.bytes.now r.owners.now r.digests.now c.requires _ _ _ c.row_part-start.ensures digest c.binary_search_by.result facts.bound
    (facts.position (λ held. bytes_cmp held digest) (always_returns_same _ _ _ (λ a r g called. search rules)))).found

pub returns-in-Err-clause-absent : goal.returns-in-Err-clause-absent
returns-in-Err-clause-absent c =
    let r = c.args.rows in
    let facts = c.binary_search_by.ensures in
    let digest = c.args.digest.now in
    subst (λ (s : Result ℕ ℕ). IfErr s (λ i. IsInsertionPlace origin_cmp (rows_of r) ((c.args.tile, c.args.slice.now), digest) (c.row_part-start.result.0 + i))) c.in-Err.is
    (row_searched r.bytes.now r.owners.now r.digests.now c.requires _ _ _ c.row_part-start.ensures digest c.binary_search_by.result facts.bound
    (facts.position (λ held. bytes_cmp held digest) (always_returns_same _ _ _ (λ a r g called. search rules)))).absent
