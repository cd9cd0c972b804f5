use Rattle.std.proofs.Common.{◌++◌, ap, ◌∙◌, arith}
use Rattle.std.proofs.lemmas.List.{take_all}
use Rattle.std.specs.List.{flat_map}
use Rattle.std.specs.String.{string_bytes}
use Rattle.ffv1_range.specs.Tables.{SetValue}
use Rattle.ffv1_commands.specs.SetupLines.{contexts_word}
use Rattle.ffv1_commands.proofs.setup_lines.push_contexts.Goals as goal

-- the loop ends after the last set
pub returns : goal.returns
returns c =
    let words = flat_map (λ (set : SetValue). contexts_word set.contexts) in
    c.loop-set.invariant ∙ ap (λ sets. string_bytes c.args.text.now ++ words sets) (take_all c.loop-set.set c.args.recording.now.setup.sets (omega arith))
