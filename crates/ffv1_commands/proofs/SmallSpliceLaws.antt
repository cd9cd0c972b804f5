-- What `splice` makes of copies is what the splice gives, as the small definitions have it.
use Rattle.std.proofs.Common.{◌∙◌, subst, sym}
use Rattle.ffv1_splice.specs.Small.{IsSplicedFrom}
use Rattle.ffv1_splice.proofs.SmallPlaces.{given_back_is_spliced}
use Rattle.ffv1_splice.proofs.SmallSettled.{settled_is_given_back}
use Rattle.ffv1_commands.specs.SmallSplices.{TrueIsSpliced, SettledIsMade}
use Rattle.ffv1_commands.proofs.SpliceCommandLaws.{made_by}

pub true_is_spliced : TrueIsSpliced
true_is_spliced copies made is reported =
    let by = made_by copies made is in
    subst (IsSplicedFrom copies) (sym by.1.file) (given_back_is_spliced copies by.0 by.1.is_splice (by.1.returned.0 reported))

pub settled_is_made : SettledIsMade
settled_is_made copies original made settled is =
    let by = made_by copies made is in
    let given = settled_is_given_back copies original by.0 settled by.1.is_splice in
    (by.1.file ∙ given.0, by.1.returned.1 given.1)
