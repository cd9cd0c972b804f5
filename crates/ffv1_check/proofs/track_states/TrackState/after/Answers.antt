use Rattle.std.proofs.Common.{refl, ap, ◌∙◌, pos, ◌+ℤ◌}
use Rattle.std.specs.Prelude.{option_map}
use Rattle.ffv1_check.specs.Before.{first_of}
use Rattle.ffv1_check.proofs.TrackSteps.{state_more}
use Rattle.ffv1_check.proofs.track_states.TrackState.after.Goals as goal

pub returns : goal.returns
returns c = λ parts block_part stand timestamp standing.
    let block = c.args.block.now in
    state_more parts block_part block c.args.self.now _ stand standing refl c.checked_with.ensures
    (c.last_with.ensures ∙ ap (λ o. first_of (option_map (λ found. pos found +ℤ block.time) o) c.args.self.now.last) timestamp)
