use Rattle.ffv1_commands.proofs.AnyPictureLaws.{pictures_are_alike}
use Rattle.ffv1_commands.proofs.laws.pictures_are_alike.Goals as goal

pub returns : goal.returns
returns c = pictures_are_alike
