use Rattle.ffv1_player.proofs.OneFrame.{one_frame, refused_has_no_frame}
use Rattle.ffv1_player.proofs.OneFault.{one_fault}
use Rattle.ffv1_player.proofs.player.played_frames_are_one.Goals as goal

pub returns : goal.returns
returns c = λ r last payload version fit. record {
  one_frame = λ frame other left more h k. one_frame r version last fit payload frame left h other more k;
  refused_has_no_frame = λ frame left fault h f. refused_has_no_frame r version last fit payload frame left h fault f;
  one_fault = one_fault r version last fit payload;
}
