use Rattle.std.proofs.Common.{◌≡◌, ◌++◌, take}
use Rattle.std.specs.List.{flat_map}
use Rattle.std.specs.String.{string_bytes}
use Rattle.ffv1_commands.specs.SetupText.{coded_word}
use Rattle.ffv1_commands.proofs.setup.push_all_coded.Given as goal

-- States_coded of the sets so far was added.
abbrev pub invariant-loop-set : goal.invariant-loop-set
invariant-loop-set l =
    string_bytes l.text ≡ string_bytes l.initial.text ++ flat_map (λ states. coded_word states.coded) (take l.set l.recording.states)
