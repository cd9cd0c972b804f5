use Rattle.std.proofs.Common.{◌≡◌, ◌+◌, ◌∙◌, ap, sym, map, option_map, drop, suc, List, Option, Bor, arith}
use Rattle.std.proofs.Math.Seq.{drop-cons}
use Rattle.clap.specs.Words.{App, Text, app_of, with_subcommand}
use Rattle.ffv1_words.specs.Grammar.{with_commands}
use Rattle.ffv1_words.proofs.reading.with_commands.Goals as goal

abbrev reported : (Bor Text × Bor (List (Bor Text)) × Option (Bor Text)) → Text × List Text × Option Text
reported command = (command.0.now, map (λ word. word.now) command.1.now, option_map (λ word. word.now) command.2)

pub loop-name-preserved : goal.loop-name-preserved
loop-name-preserved c =
    let before = app_of c.loop-name.program in
    let added = c.in_ok-program.ensures.shape c.in_ok-command.ensures.local in
    let next : c.loop-name.name-index + 1 ≡ suc c.loop-name.name-index = omega arith in
    rw next (ap (λ program. with_commands program (map reported (drop (suc c.loop-name.name-index) c.args.commands.now)))
    (added ∙ ap (λ (command : App). with_subcommand before command.top) c.in_ok-command.ensures.app)
    ∙ sym (ap (λ rest. with_commands before (map reported rest)) (drop-cons c.args.commands.now c.loop-name.name-index _ (omega arith)))
    ∙ c.loop-name.invariant)
