use Rattle.std.proofs.Common.{◌≡◌, ◌∙◌, ap, Result, IfOk, true}
use Rattle.std.proofs.lemmas.Result.{IfOk-weaker}
use Rattle.clap.specs.Simple.{App, app_of, app_of_fields}
use Rattle.clap.specs.declared.builder.command.Command.{Command}
use Rattle.ffv1_words.specs.Grammar.{with_commands, all_commands, empty_program, program_app}
use Rattle.ffv1_words.proofs.reading.program.Goals as goal

-- a program that has to be given a command, with all commands after its own
with_all : {E : Type 0} (program : Command) (r : Result Command E) → app_of program ≡ empty_program
    → IfOk r (λ whole. app_of whole ≡ with_commands (app_of program) all_commands) → IfOk r (λ whole. app_of whole ≡ program_app)
with_all program r is reported = IfOk-weaker r _ _ (λ whole made. made ∙ ap (λ app. with_commands app all_commands) is) reported

pub returns : goal.returns
returns c =
    let alone : App → App = λ app. record app { top = record app.top { disable_help_subcommand = true } } in
    let required : App → App = λ app. record app { top = record app.top { subcommand_required = true } } in
    let bare = ap app_of_fields c.disable_help_subcommand.ensures ∙ ap alone c.new.ensures.app in
    let program = ap app_of_fields c.subcommand_required-program.ensures ∙ ap required bare in
    with_all c.subcommand_required-program.result c.with_commands.result program c.with_commands.ensures
