use Rattle.ebml.proofs.ContentList.{contents_are_one}
use Rattle.ebml.proofs.contents.contents_are_one.Goals as goal

pub returns : goal.returns
returns c = contents_are_one
