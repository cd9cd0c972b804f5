use Rattle.ffv1_commands.proofs.RecordTexts.{setup_of_bytes}
use Rattle.ffv1_program.proofs.Runs.{all_ok, all_err}
use Rattle.ffv1_program.proofs.Unread.{unread_as, setup_unread}
use Rattle.ffv1_program.proofs.Unwritten.{setup_unwritten}
use Rattle.ffv1_program.proofs.frames.setup_record.Goals as goal

pub returns : goal.returns
returns g c recordings =
    let r = c.setup_of.result in
    let bytes = setup_of_bytes _ _ _ _ _ _ r c.setup_of.ensures.reported in
    record {
      does = all_ok r _ (rw c.device.ensures.bytes at bytes.ok);
      stops = all_err r _ (rw c.device.ensures.bytes at bytes.err);
      keeps = all_err r _ c.setup_of.ensures.untouched;
      names = all_err r _ bytes.names;
      refuses = tt;
      unread = all_err r _ (unread_as _ _ r (λ path unread. (c.device.result, c.setup_of.new.input, c.device.ensures.at, unread))
          (setup_unread _ _ _ _ _ _ r c.setup_of.ensures.reported));
      unwritten = all_err r _ (setup_unwritten _ _ _ _ _ _ r c.setup_of.ensures.reported);
    }
