use Rattle.std.proofs.Common.{◌≡◌, ◌++◌, take}
use Rattle.std.specs.List.{flat_map}
use Rattle.std.specs.String.{string_bytes}
use Rattle.ffv1_commands.specs.SetupLines.{contexts_word}
use Rattle.ffv1_commands.proofs.setup_lines.push_contexts.Given as goal

-- The contexts of the sets so far were added.
abbrev pub invariant-loop-set : goal.invariant-loop-set
invariant-loop-set l = string_bytes l.text ≡ string_bytes l.initial.text ++ flat_map (λ set. contexts_word set.contexts) (take l.set l.recording.setup.sets)
