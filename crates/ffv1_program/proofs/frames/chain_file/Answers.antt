use Rattle.ffv1_commands.proofs.ChainSteps.{chain_of_bytes}
use Rattle.ffv1_program.proofs.Runs.{all_ok, all_err}
use Rattle.ffv1_program.proofs.Unread.{unread_as, chain_unread}
use Rattle.ffv1_program.proofs.Unwritten.{chain_unwritten}
use Rattle.ffv1_program.proofs.frames.chain_file.Goals as goal

pub returns : goal.returns
returns g c recordings =
    let r = c.chain_of.result in
    let bytes = chain_of_bytes _ _ _ _ r c.chain_of.ensures.reported in
    record {
      does = all_ok r _ (rw c.device.ensures.bytes at bytes.ok);
      stops = all_err r _ (rw c.device.ensures.bytes at bytes.err);
      keeps = all_err r _ c.chain_of.ensures.untouched;
      names = all_err r _ bytes.names;
      refuses = tt;
      unread = all_err r _ (unread_as _ _ r (λ path unread. (c.device.result, c.chain_of.new.frame, c.device.ensures.at, unread))
          (chain_unread _ _ _ _ r c.chain_of.ensures.reported));
      unwritten = all_err r _ (chain_unwritten _ _ _ _ r c.chain_of.ensures.reported);
    }
