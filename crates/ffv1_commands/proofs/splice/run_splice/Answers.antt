use Rattle.std.proofs.Common.{rules}
use Rattle.ffv1_commands.proofs.SpliceCommandSteps.{splice_of_bytes}
use Rattle.ffv1_commands.proofs.Wrapped.{both_through}
use Rattle.ffv1_commands.proofs.splice.run_splice.Goals as goal

pub returns : goal.returns
returns g c =
    let bytes = splice_of_bytes g.C.Read.remaining _ _ _ _ _ _ c.splice_by.result c.splice_by.ensures.reported in
    let kept = both_through c.splice_by.result _ _ _ _ _ _ c.new.ensures.writer c.new-2.ensures.writer c.splice_by.ensures.untouched in
    record { ok = search (rules, bytes.ok); err = search (rules, bytes.err); untouched = search (rules, kept); later_kept = bytes.later_kept; names = bytes.names }
