use Rattle.std.proofs.Common.{◌≡◌, map, option_map, drop}
use Rattle.clap.specs.Words.{app_of}
use Rattle.ffv1_words.specs.Grammar.{with_commands}
use Rattle.ffv1_words.proofs.reading.with_commands.Given as goal

-- The program so far, with the commands that are left after its own, is the whole program.
abbrev pub invariant-loop-name : goal.invariant-loop-name
invariant-loop-name l =
    with_commands (app_of l.program)
    (map (λ command. (command.0.now, map (λ word. word.now) command.1.now, option_map (λ word. word.now) command.2)) (drop l.name-index l.commands))
    ≡ with_commands (app_of l.initial.program)
    (map (λ command. (command.0.now, map (λ word. word.now) command.1.now, option_map (λ word. word.now) command.2)) l.commands)
