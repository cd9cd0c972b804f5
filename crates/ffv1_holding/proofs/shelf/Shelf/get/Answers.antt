use Rattle.std.proofs.Common.{◌<◌, length, arith, subst, sym}
use Rattle.std.proofs.lemmas.List.{get_or-map}
use Rattle.ffv1_slice.specs.Chain.{IsFramed}
use Rattle.ffv1_holding.specs.SliceOrder.{bytes_total}
use Rattle.ffv1_holding.specs.Inner.PoolEntries.{slice_in}
use Rattle.ffv1_holding.specs.declared.pool_entry.PoolEntry.{PoolEntry}
use Rattle.ffv1_holding.proofs.RisingSets.{size_kept, items_kept}
use Rattle.ffv1_holding.proofs.shelf.Shelf.get.Goals as goal

abbrev nothing : PoolEntry
nothing = record { tile = 0; start = 0; length = 0 }

pub bounds-entries-place : goal.bounds-entries-place
bounds-entries-place c =
    omega (arith, c.requires, size_kept bytes_total (slice_in c.self.inside.bytes.now) c.self.inside.entries.now _ c.self.invariant.rising c.self.view_is)

pub offset_bounds-entries-place : goal.offset_bounds-entries-place
offset_bounds-entries-place c =
    let lt : c.args.place < length c.self.inside.entries.now =
    omega (arith, c.requires, size_kept bytes_total (slice_in c.self.inside.bytes.now) c.self.inside.entries.now _ c.self.invariant.rising c.self.view_is) in
    omega (arith, c.self.told)

pub returns : goal.returns
returns c =
    let bytes = c.self.inside.bytes.now in
    let es = c.self.inside.entries.now in
    let listed = items_kept bytes_total (slice_in bytes) es _ c.self.invariant.rising c.self.view_is in
    let lt : c.args.place < length es =
    omega (arith, c.requires, size_kept bytes_total (slice_in bytes) es _ c.self.invariant.rising c.self.view_is) in
    record {
      value = rw (listed, get_or-map (slice_in bytes) es c.args.place nothing c.slice.result.now lt) c.slice.ensures;
      framed = subst IsFramed (sym c.slice.ensures) (c.self.invariant.each c.args.place nothing lt).framed;
    }
