use Rattle.std.proofs.Common.{inr}
use Rattle.ffv1_commands.proofs.RestoreSteps.{restore_of_bytes}
use Rattle.ffv1_program.proofs.Runs.{all_ok, all_err}
use Rattle.ffv1_program.proofs.Unread.{unread_as, restore_unread}
use Rattle.ffv1_program.proofs.Unwritten.{err_out_also, restore_unwritten}
use Rattle.ffv1_program.proofs.holdings.restore_file.Goals as goal

pub returns : goal.returns
returns g c out =
    let r = c.restore_of.result in
    let bytes = restore_of_bytes c.args.recordings (g.F.Buffered.Source.log c.in_ok-file.file)
    (g.F.Buffered.Source.log c.restore_of.new.file) _ _ _ _ r c.restore_of.ensures.reported in
    record {
      does = all_ok r _ (rw c.in_ok-file.ensures.bytes at bytes.ok);
      stops = all_err r _ (rw c.in_ok-file.ensures.bytes at bytes.err);
      keeps = all_err r _ c.restore_of.ensures.untouched;
      names = all_err r _ bytes.names;
      refuses = tt;
      unread = all_err r _ (unread_as _ _ r (λ path unread. (c.in_ok-file.file, c.restore_of.new.file, c.in_ok-file.ensures.at, unread))
          (restore_unread c.args.recordings _ _ _ _ _ _ r c.restore_of.ensures.reported));
      unwritten = all_err r _ (err_out_also _ _ _ r inr (restore_unwritten _ _ _ _ _ _ c.args.recordings r c.restore_of.ensures.reported));
    }
