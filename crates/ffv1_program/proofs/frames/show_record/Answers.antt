use Rattle.ffv1_commands.proofs.RecordTexts.{show_of_bytes}
use Rattle.ffv1_program.proofs.Runs.{all_ok, all_err}
use Rattle.ffv1_program.proofs.Unread.{unread_as, show_unread}
use Rattle.ffv1_program.proofs.Unwritten.{show_unwritten}
use Rattle.ffv1_program.proofs.frames.show_record.Goals as goal

pub returns : goal.returns
returns g c recordings =
    let r = c.show_of.result in
    let bytes = show_of_bytes _ _ _ _ _ _ r c.show_of.ensures.reported in
    record {
      does = all_ok r _ (rw c.device.ensures.bytes at bytes.ok);
      stops = all_err r _ (rw c.device.ensures.bytes at bytes.err);
      keeps = all_err r _ c.show_of.ensures.untouched;
      names = all_err r _ bytes.names;
      refuses = tt;
      unread = all_err r _ (unread_as _ _ r (λ path unread. (c.device.result, c.show_of.new.input, c.device.ensures.at, unread))
          (show_unread _ _ _ _ _ _ r c.show_of.ensures.reported));
      unwritten = all_err r _ (show_unwritten _ _ _ _ _ _ r c.show_of.ensures.reported);
    }
