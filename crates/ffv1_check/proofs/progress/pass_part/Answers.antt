use Rattle.std.proofs.Common.{sym, subst, [], ◌∷◌, ◌++◌}
use Rattle.ffv1_check.specs.Inner.Stands.{EachStands}
use Rattle.ffv1_check.proofs.TrackSteps.{others_same}
use Rattle.ffv1_check.proofs.progress.pass_part.Goals as goal

pub returns-in-Block : goal.returns-in-Block
returns-in-Block c = λ parts each timestamp.
    subst (λ p. EachStands (parts ++ p ∷ []) c.pass_block.new.tracks) (sym c.in-Block.is) (c.pass_block.ensures parts each timestamp)

pub returns-in_default : goal.returns-in_default
returns-in_default c = λ parts each timestamp. others_same parts c.args.part.now c.args.tracks.now each c.in_default.not-Block
