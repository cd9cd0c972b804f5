use Rattle.std.proofs.Common.{rules}
use Rattle.ffv1_commands.proofs.ChainSteps.{chain_of_bytes}
use Rattle.ffv1_commands.proofs.Wrapped.{one_through}
use Rattle.ffv1_commands.proofs.chain.run_chain.Goals as goal

pub returns : goal.returns
returns g c =
    let bytes = chain_of_bytes _ _ _ _ c.chain_of.result c.chain_of.ensures.reported in
    let kept = one_through c.chain_of.result _ _ _ c.new-2.ensures.writer c.chain_of.ensures.untouched in
    record { ok = search (rules, bytes.ok); few = search (rules, bytes.few); err = search (rules, bytes.err); untouched = search (rules, kept); names = bytes.names }
