use Rattle.std.proofs.Common.{◌≡◌, ℕ, List, map, ap, ◌∙◌}
use Rattle.sha2.specs.Sha256.{sha256}
use Rattle.ffv1_holding.specs.Sets as set
use Rattle.ffv1_holding.specs.SliceOrder.{Entry, Origin}
use Rattle.ffv1_holding.specs.Inner.TileSets.{with_more}
use Rattle.ffv1_holding.specs.Inner.PoolEntries.{entry_in}
use Rattle.ffv1_holding.specs.Inner.Rows.{rows_in}
use Rattle.ffv1_holding.proofs.OneRows.{marked_listed, marked_rows, OnOk-map}
use Rattle.ffv1_holding.proofs.OriginSteps.{held_marked}
use Rattle.ffv1_holding.proofs.pool.Pool.insert_copy.Goals as goal

pub insert_all-requires-clause-rows : goal.insert_all-requires-clause-rows
insert_all-requires-clause-rows c =
    let found = c.args.found.now in
    let digests = c.deref.ensures.value ∙ c.in_ok-digests.ensures in
    rw digests (marked_rows c.args.copy.now c.digest-digest.result found c.requires)

pub insert_all-requires-clause-held : goal.insert_all-requires-clause-held
insert_all-requires-clause-held c =
    let found = c.args.found.now in
    let copy = c.args.copy.now in
    let digests = c.deref.ensures.value ∙ c.in_ok-digests.ensures in
    rw (digests, marked_listed copy c.digest-digest.result found) (held_marked c.digest-digest.result (map (entry_in copy) found))

pub returns-clause-ok : goal.returns-clause-ok
returns-clause-ok c =
    let found = c.args.found.now in
    let copy = c.args.copy.now in
    let digests = c.deref.ensures.value ∙ c.in_ok-digests.ensures in
    let h = c.args.self.now in
    let mark = λ (d : List ℕ) (e : Entry). let o : Origin = (e, d) in o in
    let rows : rows_in copy found c.deref.result.now ≡ map (λ e. (e, sha256 copy)) (map (entry_in copy) found) =
    ap (rows_in copy found) digests ∙ marked_listed copy c.digest-digest.result found
    ∙ ap (λ d. map (mark d) (map (entry_in copy) found)) c.digest-digest.ensures in
    OnOk-map c.insert_all.result _ _ c.insert_all.ensures.ok
    (λ is. is ∙ ap (λ xs. with_more h (set.from_list (map (entry_in copy) found)) (set.from_list xs)) rows)
