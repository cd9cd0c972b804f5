use Rattle.std.proofs.Common.{◌≡◌, ◌+◌, take}
use Rattle.ffv1_holding.specs.Joins.{joined_all, AreJoinable}
use Rattle.ffv1_holding.proofs.joins.join_all.Given as goal

-- the values passed so far are joined, and `new` is the growth
abbrev pub invariant-loop-joined : goal.invariant-loop-joined
invariant-loop-joined g l = let m = g.T.Join in record {
  joined : l.whole ≡ joined_all m.union l.fn.whole (take l.joined l.others);
  joinable : AreJoinable m.joinable m.union l.fn.whole (take l.joined l.others);
  growth : m.size l.whole ≡ m.size l.fn.whole + l.new;
}
