use Rattle.std.proofs.Common.{subst}
use Rattle.ffv1_player.specs.Frames.{IsPlayedFrame}
use Rattle.ffv1_makings.specs.Makers.{MakerValue}
use Rattle.ffv1_makings.proofs.maker.Maker.frame.Goals as goal

pub returns-in-Ok-clause-made : goal.returns-in-Ok-clause-made
returns-in-Ok-clause-made c =
    let frame = c.in-Ok.frame in
    let left = c.in-Ok.ensures.ok.0 in
    let player = c.self.inside.player in
    let of_bytes = subst (λ bytes. IsPlayedFrame player.recording player.last bytes frame left) c.deref-4.ensures.value c.in-Ok.ensures.ok.1 in
    record {
      frame = frame;
      left = left;
      is_played =
          subst (λ (v : MakerValue). IsPlayedFrame v.player.recording v.player.last c.in_ok-payload.field-0.payload.items frame left) c.self.view_is of_bytes;
      is_asked = c.is_picture.ensures c.if-is_picture.true;
      is_left = c.in-Ok.ensures.ok.2;
    }
