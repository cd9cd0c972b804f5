use Rattle.std.proofs.Common.{rules}
use Rattle.ffv1_commands.proofs.JoinedFiles.{join_of_bytes}
use Rattle.ffv1_commands.proofs.Wrapped.{both_through}
use Rattle.ffv1_commands.proofs.join.run_join.Goals as goal

pub returns : goal.returns
returns g c =
    let bytes = join_of_bytes _ _ _ _ _ _ _ _ _ _ c.join_by.result c.join_by.ensures.reported in
    let kept = both_through c.join_by.result _ _ _ _ _ _ c.new.ensures.writer c.new-2.ensures.writer c.join_by.ensures.untouched in
    record {
      ok = search (rules, bytes.ok);
      err = search (rules, bytes.err);
      untouched = search (rules, kept);
      later_kept = search (rules, bytes.later);
      names = bytes.names;
    }
