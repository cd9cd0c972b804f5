use Rattle.ffv1_check.proofs.TrackSteps.{unnamed_same}
use Rattle.ffv1_check.proofs.progress.pass_block.Goals as goal

pub returns-in-Named : goal.returns-in-Named
returns-in-Named c = λ parts each timestamp. c.pass_named.ensures parts c.args.block.now each timestamp c.in-Named.is

pub returns-in_default : goal.returns-in_default
returns-in_default c = λ parts each timestamp. unnamed_same parts c.args.block.now c.args.tracks.now each c.in_default.not-Named
