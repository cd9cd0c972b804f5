use Rattle.std.proofs.Common.{◌≡◌, ◌++◌, ℕ, List, map, sym, ap, ◌∙◌, subst, refl, Err}
use Rattle.std.proofs.lemmas.Result.{err_from_is_err_and}
use Rattle.ffv1_holding.specs.Sets as set
use Rattle.ffv1_holding.specs.SliceOrder.{Entry, Origin, entry_cmp, origin_cmp}
use Rattle.ffv1_holding.specs.Inner.TileSets.{TileSlices, with_more}
use Rattle.ffv1_holding.specs.Inner.PoolEntries.{entry_in, IsPool}
use Rattle.ffv1_holding.specs.declared.pool_entry.PoolEntry.{PoolEntry}
use Rattle.ffv1_holding.specs.Contents.{AreHeld}
use Rattle.ffv1_holding.specs.Inner.Fresh.{fresh_in, AreFresh, AreAllFresh}
use Rattle.ffv1_holding.specs.Inner.Rows.{rows_in, rows_of, IsRows, IsStock, fresh_rows_in, AreFreshRows}
use Rattle.ffv1_holding.proofs.RowGrowth.{rows_after, rows_kept}
use Rattle.ffv1_holding.proofs.FreshHeld.{fresh_held}
use Rattle.ffv1_holding.proofs.Errors.{error_is}
use Rattle.ffv1_holding.proofs.pool.Pool.insert_all.Goals as goal

-- what a pool of these parts is taken for
abbrev seen : ℕ → List ℕ → List PoolEntry → List PoolEntry → List (List ℕ) → TileSlices
seen tiles bytes entries owners digests = record {
  tiles = tiles;
  slices = set.from_list (map (entry_in bytes) entries);
  origins = set.from_list (rows_in bytes owners digests);
}

-- parts that are the same make the same stock
stock_same : (bytes bytes' : List ℕ) (entries entries' owners owners' : List PoolEntry) (digests digests' : List (List ℕ)) → bytes' ≡ bytes
    → entries' ≡ entries → owners' ≡ owners → digests' ≡ digests → IsStock bytes entries owners digests → IsStock bytes' entries' owners' digests'
stock_same bytes bytes' entries entries' owners owners' digests digests' b e o d is = rw (b, e, o, d) is

rows_same : (bytes bytes' : List ℕ) (owners owners' : List PoolEntry) (digests digests' : List (List ℕ)) → bytes' ≡ bytes → owners' ≡ owners
    → digests' ≡ digests → IsRows bytes owners digests → IsRows bytes' owners' digests'
rows_same bytes bytes' owners owners' digests digests' b o d is = rw (b, o, d) is

pool_same : (bytes bytes' : List ℕ) (entries entries' : List PoolEntry) → bytes' ≡ bytes → entries' ≡ entries → IsPool bytes entries
    → IsPool bytes' entries'
pool_same bytes bytes' entries entries' b e is = rw (b, e) is

pub fresh_among-requires : goal.fresh_among-requires
fresh_among-requires c = record {
  held = (pool_same _ _ _ _ c.deref.ensures.value c.deref-2.ensures.value c.self.invariant.pool).rising;
  coming = c.requires.pool;
}

pub returns-in_err-fresh : goal.returns-in_err-fresh
returns-in_err-fresh c =
    let p = err_from_is_err_and c.from_residual.result c.from_residual.ensures.1 in
    rw (p.1, p.2) (record { ok = tt; memory = ap Err (error_is c.in_err-fresh.ensures.memory); err = refl })

pub fresh_rows-requires : goal.fresh_rows-requires
fresh_rows-requires c = record {
  held = rows_same _ _ _ _ _ _ (c.lent-held.ensures.bytes ∙ c.deref-3.ensures.value) c.lent-held.ensures.owners c.lent-held.ensures.digests
      c.self.invariant.rows;
  coming = c.requires.rows;
}

pub returns-in_err-new : goal.returns-in_err-new
returns-in_err-new c =
    let p = err_from_is_err_and c.from_residual-in_err-new.result c.from_residual-in_err-new.ensures.1 in
    rw (p.1, p.2) (record { ok = tt; memory = ap Err (error_is c.in_err-new.ensures.memory); err = refl })

pub invariant_of-self : goal.invariant_of-self
invariant_of-self c =
    let same = c.make_room.ensures in
    stock_same _ _ _ _ _ _ _ _ same.bytes same.entries refl refl c.self.invariant

pub returns-in_err-make_room : goal.returns-in_err-make_room
returns-in_err-make_room c =
    let p = err_from_is_err_and c.from_residual-in_err-make_room.result c.from_residual-in_err-make_room.ensures.1 in
    let old = c.self.inside in
    let same = c.make_room.ensures in
    rw (p.1, p.2) (record {
      ok = tt;
      memory = ap Err (error_is c.in_err-make_room.ensures.memory);
      err = (λ i. seen old.tiles (same.bytes i) (same.entries i) old.rows.owners.items old.rows.digests.items) ∙ c.self.view_is;
    })

pub invariant_of-self-in_err-make_room-2 : goal.invariant_of-self-in_err-make_room-2
invariant_of-self-in_err-make_room-2 c =
    let same = c.make_room.ensures in
    let rows = c.make_room-2.ensures in
    stock_same _ _ _ _ _ _ _ _ same.bytes same.entries rows.owners rows.digests c.self.invariant

pub returns-in_err-make_room-2 : goal.returns-in_err-make_room-2
returns-in_err-make_room-2 c =
    let p = err_from_is_err_and c.from_residual-in_err-make_room-2.result c.from_residual-in_err-make_room-2.ensures.1 in
    let old = c.self.inside in
    let same = c.make_room.ensures in
    let rows = c.make_room-2.ensures in
    rw (p.1, p.2) (record {
      ok = tt;
      memory = refl;
      err = (λ i. seen old.tiles (same.bytes i) (same.entries i) (rows.owners i) (rows.digests i)) ∙ c.self.view_is;
    })

pub put_slices-requires-clause-pool : goal.put_slices-requires-clause-pool
put_slices-requires-clause-pool c = pool_same _ _ _ _ c.make_room.ensures.bytes c.make_room.ensures.entries c.self.invariant.pool

pub put_slices-requires-clause-fresh : goal.put_slices-requires-clause-fresh
put_slices-requires-clause-fresh c =
    let bytes = c.deref.ensures.value ∙ sym c.make_room.ensures.bytes in
    let entries = c.deref-2.ensures.value ∙ sym c.make_room.ensures.entries in
    subst (λ (held : List Entry). AreFresh held c.args.rows.bytes.now c.in_ok-fresh.fresh.items) (λ i. map (entry_in (bytes i)) (entries i))
    c.in_ok-fresh.ensures.fresh

pub put-requires-clause-pool : goal.put-requires-clause-pool
put-requires-clause-pool c = pool_same _ _ _ _ c.deref-6.ensures.value c.deref-7.ensures.value c.put_slices.ensures.pool

pub invariant_of-self-2 : goal.invariant_of-self-2
invariant_of-self-2 c = record {
  pool = c.put_slices.ensures.pool;
  rows = subst (λ (b : List ℕ). IsRows b c.put.new.self.owners.items c.put.new.self.digests.items) c.deref-6.ensures.value c.put.ensures.rows;
}

pub returns-clause-memory : goal.returns-clause-memory
returns-clause-memory c = tt

pub returns-clause-err : goal.returns-clause-err
returns-clause-err c = tt

pub put-requires-clause-rows : goal.put-requires-clause-rows
put-requires-clause-rows c =
    let old = c.self.inside in
    let more = c.put_slices.ensures.later in
    rw (c.deref-6.ensures.value, c.make_room-2.ensures.owners, c.make_room-2.ensures.digests)
    (rows_kept old.bytes.items old.rows.owners.items old.rows.digests.items c.self.invariant.rows c.put_slices.new.bytes.items
    (more.0, more.1 ∙ ap (λ b. b ++ more.0) c.make_room.ensures.bytes))

-- the rows that were searched are those of the pool, which stay the same over the bytes that have grown
pub put-requires-clause-fresh : goal.put-requires-clause-fresh
put-requires-clause-fresh c =
    let old = c.self.inside in
    let more = c.put_slices.ensures.later in
    let lent_bytes = c.lent-held.ensures.bytes ∙ c.deref-3.ensures.value in
    let searched : rows_of c.lent-held.result ≡ rows_in old.bytes.items old.rows.owners.items old.rows.digests.items =
    (λ i. rows_in (lent_bytes i) (c.lent-held.ensures.owners i) (c.lent-held.ensures.digests i)) in
    let held : rows_in c.deref-6.result.now c.make_room-2.new.self.owners.items c.make_room-2.new.self.digests.items ≡ rows_in old.bytes.items old.rows.owners.items old.rows.digests.items =
    (λ i. rows_in (c.deref-6.ensures.value i) (c.make_room-2.ensures.owners i) (c.make_room-2.ensures.digests i))
    ∙ rows_after old.bytes.items old.rows.owners.items old.rows.digests.items c.self.invariant.rows c.put_slices.new.bytes.items
    (more.0, more.1 ∙ ap (λ b. b ++ more.0) c.make_room.ensures.bytes) in
    subst (λ (rows : List Origin). AreFreshRows rows c.args.rows.bytes.now c.in_ok-new.new.owners.items c.in_ok-new.new.digests.items)
    (searched ∙ sym held) c.in_ok-new.ensures.fresh

pub put-requires-clause-held : goal.put-requires-clause-held
put-requires-clause-held c =
    let from = c.args.rows.bytes.now in
    let old = map (entry_in c.deref.result.now) c.deref-2.result.now in
    let coming = map (entry_in from) c.args.entries.now in
    let fresh = map (fresh_in from) c.in_ok-fresh.fresh.items in
    let slices : set.from_list {R = entry_cmp} (map (entry_in c.deref-6.result.now) c.deref-7.result.now)
    ≡ set.union (set.from_list old) (set.from_list fresh) =
    (λ i. set.from_list (map (entry_in (c.deref-6.ensures.value i)) (c.deref-7.ensures.value i))) ∙ c.put_slices.ensures.slices
    ∙ (λ i. set.union (set.from_list (map (entry_in (c.make_room.ensures.bytes i)) (c.make_room.ensures.entries i))) (set.from_list fresh))
    ∙ (λ i. set.union (set.from_list (map (entry_in (sym c.deref.ensures.value i)) (sym c.deref-2.ensures.value i))) (set.from_list fresh)) in
    subst (λ s. AreHeld s (set.from_list (fresh_rows_in from c.in_ok-new.new.owners.items c.in_ok-new.new.digests.items))) (sym slices)
    (fresh_held old coming fresh c.in_ok-fresh.ensures.all (rows_of c.lent-held.result) (rows_of c.args.rows) from
    c.in_ok-new.new.owners.items c.in_ok-new.new.digests.items c.in_ok-new.ensures.fresh c.in_ok-new.ensures.all c.requires.held)

pub returns-clause-ok : goal.returns-clause-ok
returns-clause-ok c =
    let from = c.args.rows.bytes.now in
    let old = c.self.inside in
    let next = c.put_slices.new.bytes.items in
    let coming = map (entry_in from) c.args.entries.now in
    let fresh = map (fresh_in from) c.in_ok-fresh.fresh.items in
    let new = fresh_rows_in from c.in_ok-new.new.owners.items c.in_ok-new.new.digests.items in
    let more = c.put_slices.ensures.later in
    let grown : next ≡ old.bytes.items ++ more.0 = more.1 ∙ ap (λ b. b ++ more.0) c.make_room.ensures.bytes in
    let entries = subst (λ (held : List Entry). AreAllFresh entry_cmp held coming fresh)
    (λ i. map (entry_in (c.deref.ensures.value i)) (c.deref-2.ensures.value i)) c.in_ok-fresh.ensures.all in
    let slices : set.from_list {R = entry_cmp} (map (entry_in next) c.put_slices.new.entries.items)
    ≡ set.union (set.from_list (map (entry_in old.bytes.items) old.entries.items)) (set.from_list coming) =
    c.put_slices.ensures.slices
    ∙ (λ i. set.union (set.from_list (map (entry_in (c.make_room.ensures.bytes i)) (c.make_room.ensures.entries i))) (set.from_list fresh)) ∙ entries in
    let lent_bytes = c.lent-held.ensures.bytes ∙ c.deref-3.ensures.value in
    let all = subst (λ (held : List Origin). AreAllFresh origin_cmp held (rows_of c.args.rows) new)
    (λ i. rows_in (lent_bytes i) (c.lent-held.ensures.owners i) (c.lent-held.ensures.digests i)) c.in_ok-new.ensures.all in
    let held : rows_in c.deref-6.result.now c.make_room-2.new.self.owners.items c.make_room-2.new.self.digests.items ≡ rows_in old.bytes.items old.rows.owners.items old.rows.digests.items =
    (λ i. rows_in (c.deref-6.ensures.value i) (c.make_room-2.ensures.owners i) (c.make_room-2.ensures.digests i))
    ∙ rows_after old.bytes.items old.rows.owners.items old.rows.digests.items c.self.invariant.rows next (more.0, grown) in
    let origins : set.from_list {R = origin_cmp} (rows_in next c.put.new.self.owners.items c.put.new.self.digests.items)
    ≡ set.union (set.from_list (rows_in old.bytes.items old.rows.owners.items old.rows.digests.items)) (set.from_list (rows_of c.args.rows)) =
    (λ i. set.from_list (rows_in (sym c.deref-6.ensures.value i) c.put.new.self.owners.items c.put.new.self.digests.items))
    ∙ c.put.ensures.origins ∙ ap (λ xs. set.union (set.from_list {R = origin_cmp} xs) (set.from_list new)) held ∙ all in
    (λ i. let h : TileSlices = record { tiles = old.tiles; slices = slices i; origins = origins i } in h)
    ∙ ap (λ (h : TileSlices). with_more h (set.from_list coming) (set.from_list (rows_of c.args.rows))) c.self.view_is
