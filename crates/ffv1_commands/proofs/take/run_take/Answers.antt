use Rattle.std.proofs.Common.{rules}
use Rattle.ffv1_commands.proofs.TakeReported.{take_of_bytes}
use Rattle.ffv1_commands.proofs.Wrapped.{both_through}
use Rattle.ffv1_commands.proofs.take.run_take.Goals as goal

pub returns : goal.returns
returns g c =
    let bytes = take_of_bytes c.args.recordings _ _ _ _ _ _ _ _ _ _ _ c.take_by.result c.take_by.ensures.reported in
    let kept = both_through c.take_by.result _ _ _ _ _ _ c.new-2.ensures.writer c.new-3.ensures.writer c.take_by.ensures.untouched in
    record {
      ok = search (rules, bytes.ok);
      err = search (rules, bytes.err);
      untouched = search (rules, kept);
      in_turn = bytes.in_turn;
      later_kept = bytes.later;
      names = bytes.names;
    }
