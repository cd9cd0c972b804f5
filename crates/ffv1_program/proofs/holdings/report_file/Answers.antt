use Rattle.ffv1_commands.proofs.ReportSteps.{report_of_bytes}
use Rattle.ffv1_program.proofs.Runs.{all_ok, all_err}
use Rattle.ffv1_program.proofs.Unread.{unread_as, report_unread}
use Rattle.ffv1_program.proofs.Unwritten.{report_unwritten}
use Rattle.ffv1_program.proofs.holdings.report_file.Goals as goal

pub returns : goal.returns
returns g c =
    let r = c.report_of.result in
    let bytes = report_of_bytes c.args.recordings (g.F.Buffered.Source.log c.in_ok-file.file)
    (g.F.Buffered.Source.log c.report_of.new.file) _ _ r c.report_of.ensures.reported in
    record {
      does = all_ok r _ (rw c.in_ok-file.ensures.bytes at bytes.ok);
      stops = all_err r _ (rw c.in_ok-file.ensures.bytes at bytes.err);
      keeps = all_err r _ c.report_of.ensures.untouched;
      names = all_err r _ bytes.names;
      refuses = tt;
      unread = all_err r _ (unread_as _ _ r (λ path unread. (c.in_ok-file.file, c.report_of.new.file, c.in_ok-file.ensures.at, unread))
          (report_unread c.args.recordings _ _ _ _ r c.report_of.ensures.reported));
      unwritten = all_err r _ (report_unwritten _ _ _ _ c.args.recordings r c.report_of.ensures.reported);
    }
