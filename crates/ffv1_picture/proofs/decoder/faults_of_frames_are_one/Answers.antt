use Rattle.ffv1_picture.proofs.OneFrame.{no_fault}
use Rattle.ffv1_picture.proofs.OneFault.{one_fault}
use Rattle.ffv1_picture.proofs.decoder.faults_of_frames_are_one.Goals as goal

pub returns : goal.returns
returns c = λ setup payload profile. record {
  refused_has_no_frame = λ pictures fault spells. no_fault setup payload pictures spells fault;
  one_fault = one_fault setup profile payload;
}
