use Rattle.std.proofs.Common.{ℕ, ◌<◌, List, length, map, get_or, sym, ap, refl, ◌∙◌, subst, arith}
use mathlib.Core.Bool.{true≢false}
use Rattle.std.proofs.lemmas.List.{length-set}
use Rattle.ffv1_holding.specs.Sets as set
use Rattle.ffv1_holding.specs.SliceOrder.{Entry, entry_cmp, entries_total}
use Rattle.ffv1_holding.specs.Inner.Rising.{IsInsertionPlace, IsPlaceOf}
use Rattle.ffv1_holding.specs.Inner.PoolEntries.{entry_in}
use Rattle.ffv1_holding.specs.declared.fresh.Fresh.{Fresh}
use Rattle.ffv1_holding.specs.declared.pool_entry.PoolEntry.{PoolEntry}
use Rattle.ffv1_holding.proofs.RisingSets.{contains_gap}
use Rattle.ffv1_holding.proofs.Settling.{settled_more, settled_left}
use Rattle.ffv1_holding.proofs.held_rows.settle.Goals as goal
use Rattle.ffv1_holding.proofs.held_rows.settle.Goals.{in-Ok, in_default}

abbrev no_entry : PoolEntry
no_entry = record { tile = 0; start = 0; length = 0 }

abbrev nothing : Fresh PoolEntry
nothing = record { place = 0; item = no_entry }

pub loop-index-init : goal.loop-index-init
loop-index-init c = record { long = refl; done = λ i d lt. absurd (omega arith); left = λ i d ge. refl }

pub loop-index-preserved : goal.loop-index-preserved
loop-index-preserved c =
    let inv = c.loop-index.invariant in
    let from = c.args.from.now in
    let bytes = c.args.bytes.now in
    let es = c.args.entries.now in
    let old = c.args.owners.now in
    let now = c.loop-index.owners in
    let i = c.loop-index.index in
    let f = get_or now i nothing in
    let lt : i < length now = omega (arith, c.loop-index-test.true, inv.long) in
    let entry = λ (b : List ℕ). let x : Entry = (f.item.tile, b) in x in
    elim c.match-place_near.branch [
      | in-Ok w ↦
          let found = subst (λ b. IsPlaceOf (map (entry_in bytes) es) (entry b) w.in-Ok.at) c.slice.ensures w.in-Ok.ensures.found in
          rw w.owners-is (record {
            long = length-set now i (record { place = f.place; item = get_or es w.in-Ok.at no_entry }) ∙ inv.long;
            done = settled_more from bytes es c.requires.pool.each old now i lt inv.long inv.done inv.left nothing w.in-Ok.at no_entry found;
            left = settled_left from bytes es c.requires.pool.each old now i lt inv.long inv.done inv.left nothing w.in-Ok.at no_entry found;
          })
      | in_default w ↦
          let key = entry_in from f.item in
          let gap = subst (λ b. IsInsertionPlace entry_cmp (map (entry_in bytes) es) (entry b) w.in_default.field-0) c.slice.ensures w.in_default.ensures.absent in
          let held = ap (λ (g : Fresh PoolEntry). set.contains (set.from_list {R = entry_cmp} (map (entry_in bytes) es)) (entry_in from g.item))
          (inv.left i nothing (omega arith)) ∙ c.requires.held i nothing (omega (arith, inv.long)) in
          absurd (true≢false (sym held ∙ contains_gap entries_total (map (entry_in bytes) es) key w.in_default.field-0 gap))
    ]

pub returns : goal.returns
returns c = let inv = c.loop-index.invariant in record { long = inv.long; each = λ i d lt. inv.done i d (omega (arith, c.loop-index-test.false)) }

pub bounds-owners-index : goal.bounds-owners-index
bounds-owners-index c = subst (λ n. c.loop-index.index < n) (sym c.loop-index.invariant.long) c.loop-index-test.true

pub bounds-owners-index-in-loop-index : goal.bounds-owners-index-in-loop-index
bounds-owners-index-in-loop-index c = subst (λ n. c.loop-index.index < n) (sym c.loop-index.invariant.long) c.loop-index-test.true

pub place_near-requires : goal.place_near-requires
place_near-requires c = c.requires.pool.rising
