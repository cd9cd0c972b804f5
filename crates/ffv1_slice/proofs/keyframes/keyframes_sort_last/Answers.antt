use Rattle.ffv1_slice.proofs.KeyframeLaws.{keyframes_sort_last}
use Rattle.ffv1_slice.proofs.keyframes.keyframes_sort_last.Goals as goal

pub returns : goal.returns
returns c = keyframes_sort_last
