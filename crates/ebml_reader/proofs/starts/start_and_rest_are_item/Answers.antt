use Rattle.ebml_reader.proofs.StartSteps.{item_passed}
use Rattle.ebml_reader.proofs.starts.start_and_rest_are_item.Goals as goal

pub returns : goal.returns
returns c = λ kind start rest old mid new x y z first few. item_passed start rest old mid new x y z first few kind
