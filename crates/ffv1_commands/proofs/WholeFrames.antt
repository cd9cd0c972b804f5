-- What the command `splice` wrote is a whole frame where it returned `true`.
use Rattle.std.proofs.Common.{sym, subst}
use Rattle.ffv1_splice.specs.Whole.{IsWholeFrame}
use Rattle.ffv1_splice.proofs.WholeFrames.{given_back_is_whole}
use Rattle.ffv1_commands.specs.SpliceLaws.{TrueIsWhole}
use Rattle.ffv1_commands.proofs.SpliceCommandLaws.{made_by}

pub true_is_whole : TrueIsWhole
true_is_whole copies made is reported =
    let by = made_by copies made is in
    subst IsWholeFrame (sym by.1.file) (given_back_is_whole copies by.0 by.1.is_splice (by.1.returned.0 reported))
