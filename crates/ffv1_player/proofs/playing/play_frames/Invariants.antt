use Rattle.std.proofs.Common.{◌≡◌, map}
use Rattle.ffv1_player.proofs.PlaySteps.{IsPlaying}
use Rattle.ffv1_player.proofs.playing.play_frames.Given as goal

-- The frames of the sources so far were played. Before the first, nothing is touched.
abbrev pub invariant-loop-place : goal.invariant-loop-place
invariant-loop-place g l = record {
  so_far : IsPlaying l.initial.player l.player l.place (map g.S.Source.log l.initial.sources) (map g.S.Source.log l.sources)
      (g.O.Sink.log l.initial.out) (g.O.Sink.log l.out) (g.W.Sink.log l.initial.output) (g.W.Sink.log l.output) l.clean;
  untouched : l.place ≡ 0 → (l.out ≡ l.initial.out) × (l.output ≡ l.initial.output);
}
