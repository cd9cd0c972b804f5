use Rattle.std.proofs.Common.{◌≡◌, map, take}
use Rattle.ffv1_holding.specs.Contents.{with_copies}
use Rattle.ffv1_holding.specs.TakeFaults.{AreShort}
use Rattle.ffv1_holding.proofs.holding.Holding.take_all.Given as goal

-- the copies passed so far are taken
abbrev pub invariant-loop-taken : goal.invariant-loop-taken
invariant-loop-taken g l = record {
  held : l.self ≡ with_copies l.fn.self (map (λ copy. copy.now) (take l.taken l.copies));
  short : AreShort (map (λ copy. copy.now) (take l.taken l.copies));
}
