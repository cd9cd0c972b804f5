use Rattle.ffv1_hold.proofs.Common.{◌≡◌, ◌++◌, length, be4, TakesText, AreOrigins}
use Rattle.ffv1_hold.proofs.DigestTexts.{whole}
use Rattle.ffv1_hold.proofs.origins.read_origins.Given as goal

-- What was taken is the count, and the digests so far.
abbrev pub invariant-loop-index : goal.invariant-loop-index
invariant-loop-index g l = record {
  text : TakesText (g.S.Source.log l.fn.source) (g.S.Source.log l.source) l.fn.place l.place (be4 l.count ++ whole l.origins.items);
  origins : AreOrigins l.origins.items;
  some : length l.origins.items ≡ l._index;
}
