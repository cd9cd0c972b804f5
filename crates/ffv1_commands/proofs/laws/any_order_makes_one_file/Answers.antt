use Rattle.ffv1_commands.proofs.MendCommandLaws.{any_order_makes_one_file}
use Rattle.ffv1_commands.proofs.laws.any_order_makes_one_file.Goals as goal

pub returns : goal.returns
returns c = any_order_makes_one_file
