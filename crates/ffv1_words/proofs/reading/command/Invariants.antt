use Rattle.std.proofs.Common.{◌≡◌, map, drop, false}
use Rattle.clap.specs.Words.{app_of, new_app}
use Rattle.clap.specs.declared.builder.command.Command.TheViews.{out-Command}
use Rattle.ffv1_words.specs.Grammar.{with_words}
use Rattle.ffv1_words.proofs.reading.command.Given as goal

-- The command so far, with the words that are left after its own, is the whole command.
abbrev pub invariant-loop-word : goal.invariant-loop-word
invariant-loop-word l =
    record {
      app : with_words (app_of l.command) (map (λ word. word.now) (drop l.word-index l.words)) ≡ with_words (new_app l.name) (map (λ word. word.now) l.words);
      local : (out-Command l.command).has_globals ≡ false;
    }
