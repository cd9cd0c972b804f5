use Rattle.ffv1_bits.proofs.Places.{add_up}
use Rattle.ffv1_bits.proofs.reader.place_and_left_add_up.Goals as goal

pub returns : goal.returns
returns c = add_up
