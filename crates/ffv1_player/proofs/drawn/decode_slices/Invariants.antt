use Rattle.ffv1_layout.specs.Layout.{contents_of}
use Rattle.ffv1_player.specs.Players.{left_values}
use Rattle.ffv1_player.specs.Inner.Decoding.{AreDrawn}
use Rattle.ffv1_player.proofs.drawn.decode_slices.Given as goal

-- the slices so far have pictures, and these are drawn
abbrev pub invariant-loop-place : goal.invariant-loop-place
invariant-loop-place l = AreDrawn l.recording (contents_of l.placed) (left_values l.before) l.place l.frame
