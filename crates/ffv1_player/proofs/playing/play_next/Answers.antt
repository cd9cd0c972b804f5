use Rattle.std.proofs.Common.{subst}
use Rattle.ffv1_player.specs.Inner.PlaySteps.{DecodesNext}
use Rattle.ffv1_player.proofs.PlaySteps.{next_of}
use Rattle.ffv1_player.proofs.playing.play_next.Goals as goal

pub returns : goal.returns
returns g c =
    next_of c.args.place c.args.number _ c.args.player.now c.decode_next.new.player c.decode_next.result _ _ c.in_ok-payload.ensures
    (subst (λ payload. DecodesNext c.args.number payload c.args.player.now c.decode_next.new.player c.decode_next.result) c.as_slice.ensures.value c.decode_next.ensures)
