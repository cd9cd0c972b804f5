use Rattle.ffv1_samples.proofs.OnePicture.{one_slice_picture}
use Rattle.ffv1_samples.proofs.slice.one_slice_picture.Goals as goal

pub returns : goal.returns
returns c = one_slice_picture
