use Rattle.ffv1_check.proofs.TrackSteps.{named_more}
use Rattle.ffv1_check.proofs.progress.pass_named.Goals as goal

pub returns : goal.returns
returns c = λ parts block each timestamp standing.
    named_more parts block c.args.named.now c.args.tracks.now c.after-state.result each standing c.requires.below
    (c.after-state.ensures parts block (each c.args.named.now.index c.requires.below) timestamp standing)
