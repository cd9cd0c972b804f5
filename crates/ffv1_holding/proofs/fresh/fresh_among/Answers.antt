use Rattle.std.proofs.Common.{List, ℕ, ◌+◌, ap, sym, ◌∙◌, subst, map, get_or, refl}
use Rattle.ffv1_holding.specs.SliceOrder.{Entry, entry_cmp}
use Rattle.ffv1_holding.specs.Inner.Rising.{IsInsertionPlace, IsPlaceOf}
use Rattle.ffv1_holding.specs.Inner.PoolEntries.{entry_in}
use Rattle.ffv1_holding.specs.declared.pool_entry.PoolEntry.{PoolEntry}
use Rattle.ffv1_holding.proofs.FreshSteps.{IsSifted, none_fresh, entry_held, entry_new, entries_sifted}
use Rattle.std.proofs.lemmas.Result.{err_from_is_err_and}
use Rattle.ffv1_holding.proofs.fresh.fresh_among.Goals as goal
use Rattle.ffv1_holding.proofs.fresh.fresh_among.Goals.{in-Err+in_ok-push, in_default}

abbrev nothing : PoolEntry
nothing = record { tile = 0; start = 0; length = 0 }

pub loop-entry-init : goal.loop-entry-init
loop-entry-init c =
    rw c.new-fresh.ensures.items (none_fresh (map (entry_in c.args.held_bytes.now) c.args.held.now) c.args.bytes.now c.args.entries.now)

pub loop-entry-preserved : goal.loop-entry-preserved
loop-entry-preserved c =
    let held = map (entry_in c.args.held_bytes.now) c.args.held.now in
    let bytes = c.args.bytes.now in
    let es = c.args.entries.now in
    let i = c.loop-entry.entry-index in
    let entry = λ (b : List ℕ). let x : Entry = ((get_or es i nothing).tile, b) in x in
    elim c.match-found.branch [
      | in-Err+in_ok-push w ↦
          subst (IsSifted held bytes es (i + 1)) (sym (ap (λ v. v.items) w.fresh-is ∙ w.in_ok-push.ensures.items))
          (entry_new held bytes es i nothing c.loop-entry.fresh.items c.loop-entry-test.true c.loop-entry.invariant c.requires.coming w.in-Err.place
          (subst (λ b. IsInsertionPlace entry_cmp held (entry b) w.in-Err.place) c.slice.ensures w.in-Err.ensures.absent))
      | in_default w ↦
          subst (IsSifted held bytes es (i + 1)) (sym (ap (λ v. v.items) w.fresh-is))
          (entry_held held bytes es i nothing c.loop-entry.fresh.items c.loop-entry-test.true c.loop-entry.invariant w.in_default.field-0
          (subst (λ b. IsPlaceOf held (entry b) w.in_default.field-0) c.slice.ensures w.in_default.ensures.found))
    ]

pub returns-clause-fresh : goal.returns-clause-fresh
returns-clause-fresh c = (entries_sifted (map (entry_in c.args.held_bytes.now) c.args.held.now) c.args.bytes.now c.args.entries.now c.loop-entry.entry-index
    c.loop-entry.fresh.items c.loop-entry-test.false c.loop-entry.invariant).0

pub returns-clause-all : goal.returns-clause-all
returns-clause-all c = (entries_sifted (map (entry_in c.args.held_bytes.now) c.args.held.now) c.args.bytes.now c.args.entries.now c.loop-entry.entry-index
    c.loop-entry.fresh.items c.loop-entry-test.false c.loop-entry.invariant).1

pub returns-in_err-push : goal.returns-in_err-push
returns-in_err-push c =
    let p = err_from_is_err_and c.from_residual.result c.from_residual.ensures.1 in
    rw (p.1, p.2) (record { fresh = tt; all = tt; memory = refl })

pub returns-clause-memory : goal.returns-clause-memory
returns-clause-memory c = tt
