use Rattle.ffv1_hold.proofs.Common.{◌≡◌, length, take, TakesText, BeginsMagic}
use Rattle.ffv1_hold.proofs.head.read_magic.Given as goal

-- What was taken begins a magic.
abbrev pub invariant-loop-at : goal.invariant-loop-at
invariant-loop-at g l = record {
  text : TakesText (g.S.Source.log l.initial.source) (g.S.Source.log l.source) l.initial.place l.place (take l.at l.magic);
  long : length l.magic ≡ 8;
  room : length l.byte ≡ 1;
  begun : BeginsMagic l.recordings (take l.at l.magic);
}
