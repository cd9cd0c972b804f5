use Rattle.std.proofs.Common.{◌≡◌, ◌≤◌, map, take}
use Rattle.ffv1_holding.specs.Sets as set
use Rattle.ffv1_holding.proofs.slice_set.SliceSetJoin.join_with.Given as goal

-- the slices passed so far are added, and none was lost
abbrev pub invariant-loop-slice : goal.invariant-loop-slice
invariant-loop-slice l = record {
  added : l.whole ≡ set.union l.self (set.from_list (map (λ v. v.items) (take l.slice-index l.slice-items)));
  kept : set.size l.self ≤ set.size l.whole;
}
