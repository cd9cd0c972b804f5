-- The program's commands, as clap reads them: a subcommand for each, which takes just its words, in their order.
use Rattle.std.specs.Prelude.{List, [], ◌∷◌, Option, Some, None, codes, true}
use Rattle.clap.specs.Lexer.{usize_max}
use Rattle.clap.specs.Words.{App, Rule, Text, new_rule, new_app, with_rule, with_subcommand}
use Rattle.clap.specs.declared.builder.action.ArgAction.TheVariants.{Set}

-- a word that has to be there
abbrev pub word_rule : Text → Rule
word_rule name = record (new_rule name) { required = true; action = Some Set }

-- a word of which there is one at least
abbrev pub words_rule : Text → Rule
words_rule name = record (word_rule name) { range = Some (record { start_inclusive = 1; end_inclusive = usize_max }) }

-- a command with these words after its own
abbrev pub with_words : App → List Text → App
with_words command [] = command
with_words command (word ∷ words) = with_words (with_rule command (word_rule word)) words

-- and with the word of which there is one at least, if it has one
abbrev pub with_several : App → Option Text → App
with_several command None = command
with_several command (Some word) = with_rule command (words_rule word)

-- a command of this name, with its words
abbrev pub command_app : Text → List Text → Option Text → App
command_app name words several = with_several (with_words (new_app name) words) several

-- a program with these commands after its own
abbrev pub with_commands : App → List (Text × List Text × Option Text) → App
with_commands program [] = program
with_commands program (command ∷ commands) =
    with_commands (with_subcommand program (command_app command.0 command.1 command.2).top) commands

-- a program that has to be given a command, and has no `help` of clap's own
abbrev pub empty_program : App
empty_program = record { top = record ((new_app (codes "ffv1restore")).top) { disable_help_subcommand = true; subcommand_required = true }; subs = [] }

-- all commands, each with its words, and the word of which there is one at least
abbrev pub all_commands : List (Text × List Text × Option Text)
all_commands =
    (codes "chain", codes "FRAME" ∷ [], None)
    ∷ (codes "scan", codes "RANGES" ∷ codes "FILE" ∷ [], None)
    ∷ (codes "check", codes "FILE" ∷ [], None)
    ∷ (codes "show", codes "RECORD" ∷ codes "WIDTH" ∷ codes "HEIGHT" ∷ [], None)
    ∷ (codes "setup", codes "RECORD" ∷ codes "WIDTH" ∷ codes "HEIGHT" ∷ [], None)
    ∷ (codes "take", codes "RECORD" ∷ codes "WIDTH" ∷ codes "HEIGHT" ∷ codes "OUT" ∷ [], Some (codes "COPY"))
    ∷ (codes "join", codes "OUT" ∷ [], Some (codes "HOLD"))
    ∷ (codes "merge", codes "OUT" ∷ codes "A" ∷ codes "B" ∷ [], None)
    ∷ (codes "report", codes "HOLD" ∷ [], None)
    ∷ (codes "restore", codes "HOLD" ∷ codes "OUT" ∷ [], None)
    ∷ (codes "picture", codes "HOLD" ∷ codes "OUT" ∷ [], None)
    ∷ (codes "splice", codes "OUT" ∷ [], Some (codes "COPY"))
    ∷ (codes "mend", codes "LIST" ∷ codes "OUT" ∷ [], Some (codes "COPY"))
    ∷ (codes "decode", codes "RECORD" ∷ codes "WIDTH" ∷ codes "HEIGHT" ∷ codes "FRAME" ∷ codes "OUT" ∷ [], None)
    ∷ (codes "samples", codes "RECORD" ∷ codes "WIDTH" ∷ codes "HEIGHT" ∷ codes "OUT" ∷ [], Some (codes "FRAME"))
    ∷ (codes "help", [], None)
    ∷ (codes "version", [], None)
    ∷ []

abbrev pub program_app : App
program_app = with_commands empty_program all_commands
