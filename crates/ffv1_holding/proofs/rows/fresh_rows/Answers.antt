use Rattle.std.proofs.Common.{ℕ, List, [], get_or, ap, ◌∙◌, subst, refl}
use Rattle.ffv1_holding.specs.SliceOrder.{Origin, origin_cmp}
use Rattle.ffv1_holding.specs.Inner.Rising.{IsInsertionPlace, IsPlaceOf}
use Rattle.ffv1_holding.specs.Inner.Rows.{rows_of}
use Rattle.ffv1_holding.specs.declared.pool_entry.PoolEntry.{PoolEntry}
use Rattle.ffv1_holding.proofs.FreshSteps.{no_row_fresh, row_held, row_new, rows_sifted}
use Rattle.std.proofs.lemmas.Result.{err_from_is_err_and}
use Rattle.ffv1_holding.proofs.rows.fresh_rows.Goals as goal
use Rattle.ffv1_holding.proofs.rows.fresh_rows.Goals.{in-Err+in_ok-push+in_ok-push-2, in_default}

abbrev nothing : PoolEntry
nothing = record { tile = 0; start = 0; length = 0 }

pub loop-index-init : goal.loop-index-init
loop-index-init c =
    let r = c.args.coming in
    rw (c.new-owners.ensures.items, c.new-digests.ensures.items)
    (no_row_fresh (rows_of c.args.held) r.bytes.now r.owners.now r.digests.now c.requires.coming)

pub loop-index-preserved : goal.loop-index-preserved
loop-index-preserved c =
    let r = c.args.coming in
    let held = rows_of c.args.held in
    let i = c.loop-index.index in
    let digest = get_or r.digests.now i [] in
    let owners = c.loop-index.owners.items in
    let digests = c.loop-index.digests.items in
    let row = λ (b : List ℕ). let x : Origin = (((get_or r.owners.now i nothing).tile, b), digest) in x in
    elim c.match-found.branch [
      | in-Err+in_ok-push+in_ok-push-2 w ↦
          let more = row_new held r.bytes.now r.owners.now r.digests.now c.requires.coming i nothing [] owners digests c.loop-index-test.true
          c.loop-index.invariant w.in-Err.place (subst (λ b. IsInsertionPlace origin_cmp held (row b) w.in-Err.place) c.slice.ensures w.in-Err.ensures.absent) in
          rw (ap (λ v. v.items) w.owners-is ∙ w.in_ok-push.ensures.items, ap (λ v. v.items) w.digests-is ∙ w.in_ok-push-2.ensures.items) more
      | in_default w ↦
          let same = row_held held r.bytes.now r.owners.now r.digests.now c.requires.coming i nothing [] owners digests c.loop-index-test.true
          c.loop-index.invariant w.in_default.field-0 (subst (λ b. IsPlaceOf held (row b) w.in_default.field-0) c.slice.ensures w.in_default.ensures.found) in
          rw (ap (λ v. v.items) w.owners-is, ap (λ v. v.items) w.digests-is) same
    ]

pub returns-clause-fresh : goal.returns-clause-fresh
returns-clause-fresh c =
    let r = c.args.coming in
    (rows_sifted (rows_of c.args.held) r.bytes.now r.owners.now r.digests.now c.requires.coming c.loop-index.index c.loop-index.owners.items
    c.loop-index.digests.items c.loop-index-test.false c.loop-index.invariant).0

pub returns-clause-all : goal.returns-clause-all
returns-clause-all c =
    let r = c.args.coming in
    (rows_sifted (rows_of c.args.held) r.bytes.now r.owners.now r.digests.now c.requires.coming c.loop-index.index c.loop-index.owners.items
    c.loop-index.digests.items c.loop-index-test.false c.loop-index.invariant).1

pub returns-in_err-push : goal.returns-in_err-push
returns-in_err-push c =
    let p = err_from_is_err_and c.from_residual.result c.from_residual.ensures.1 in
    rw (p.1, p.2) (record { fresh = tt; all = tt; memory = refl })

pub returns-in_err-push-2 : goal.returns-in_err-push-2
returns-in_err-push-2 c =
    let p = err_from_is_err_and c.from_residual-in_err-push-2.result c.from_residual-in_err-push-2.ensures.1 in
    rw (p.1, p.2) (record { fresh = tt; all = tt; memory = refl })

pub returns-clause-memory : goal.returns-clause-memory
returns-clause-memory c = tt
