use Rattle.std.proofs.Common.{◌≡◌, ℕ, ◌<◌, ◌++◌, List, length, map, get_or}
use Rattle.std.specs.List.{filter_map, AllByRecursion}
use Rattle.ffv1_slice.specs.Chain.{LinkValue, IsLinkOf, link_of}
use Rattle.ffv1_slice.specs.Slices.{slice_at}
use Rattle.ffv1_slice.specs.Walk.{links_of}
use Rattle.ffv1_holding.specs.Contents.{IsEntryOf}
use Rattle.ffv1_holding.specs.Inner.PoolEntries.{entry_in, AreEntriesIn}
use Rattle.ffv1_holding.specs.declared.pool_entry.PoolEntry.{PoolEntry}
use Rattle.ffv1_holding.proofs.take.list_found.Given as goal

-- the slices among the links passed so far are listed
abbrev pub invariant-loop-link : goal.invariant-loop-link
invariant-loop-link g l = record {
  passed : List LinkValue;
  whole : passed ++ l.chain.left ≡ links_of l.payload;
  links : l.links ≡ length passed;
  all_links : AllByRecursion (λ link. (q : ℕ) × IsLinkOf l.payload link.start q × (link ≡ link_of l.payload link.start q)) l.chain.left;
  listed : map (entry_in l.payload) l.found.items ≡ filter_map (slice_at l.reel.rules) passed;
  lie : AreEntriesIn l.payload l.found.items;
  well_formed : (i : ℕ) (d : PoolEntry) → i < length l.found.items → IsEntryOf l.reel.rules (entry_in l.payload (get_or l.found.items i d));
}

abbrev pub decreases-loop-link : goal.decreases-loop-link
decreases-loop-link g l = length l.chain.left
