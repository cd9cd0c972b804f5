use Rattle.std.proofs.Common.{rules}
use Rattle.ffv1_commands.proofs.RecordTexts.{renamed, setup_of_bytes}
use Rattle.ffv1_commands.proofs.Wrapped.{one_through}
use Rattle.ffv1_commands.proofs.setup.run_setup.Goals as goal

pub returns : goal.returns
returns g c =
    let bytes = renamed _ _ _ _ _ (g.R.Read.remaining c.args.input.now) _ (g.W.Write.contents c.args.output.now) _
    (g.W.Write.contents c.output-1.given.0) (search rules) (search rules) (search rules)
    (setup_of_bytes _ _ _ _ _ _ c.setup_of.result c.setup_of.ensures.reported) in
    let kept = one_through c.setup_of.result _ _ _ c.new-2.ensures.writer c.setup_of.ensures.untouched in
    record { ok = bytes.ok; few = bytes.few; err = bytes.err; untouched = search (rules, kept); names = bytes.names }
