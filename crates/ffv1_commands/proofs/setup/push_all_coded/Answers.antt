use Rattle.std.proofs.Common.{◌++◌, ap, ◌∙◌, arith}
use Rattle.std.proofs.lemmas.List.{take_all}
use Rattle.std.specs.List.{flat_map}
use Rattle.std.specs.String.{string_bytes}
use Rattle.ffv1_range.specs.InitialStates.{StatesValue}
use Rattle.ffv1_commands.specs.SetupText.{coded_word}
use Rattle.ffv1_commands.proofs.setup.push_all_coded.Goals as goal

-- the loop ends after the last set
pub returns : goal.returns
returns c =
    let words = flat_map (λ (states : StatesValue). coded_word states.coded) in
    let each = c.keeps_version_3.ensures.states in
    c.loop-set.invariant ∙ ap (λ states. string_bytes c.args.text.now ++ words states) (take_all c.loop-set.set c.args.recording.now.states (omega arith))
