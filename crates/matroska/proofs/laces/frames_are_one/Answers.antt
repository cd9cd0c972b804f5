use Rattle.matroska.proofs.LaceSteps.{frames_are_one}
use Rattle.matroska.proofs.laces.frames_are_one.Goals as goal

pub returns : goal.returns
returns c = frames_are_one
