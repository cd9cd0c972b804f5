use Rattle.std.proofs.Common.{sym, ◌∙◌}
use Rattle.ffv1_commands.proofs.CheckCommandSteps.{check_of_bytes}
use Rattle.ffv1_program.proofs.Unread.{check_unread}
use Rattle.ffv1_program.proofs.Unwritten.{check_unwritten}
use Rattle.ffv1_program.proofs.checks.check_named.Goals as goal

pub returns : goal.returns
returns g c recordings =
    let r = c.check_of.result in
    let both = c.device-first.ensures.bytes ∙ sym c.device-second.ensures.bytes in
    let bytes = check_of_bytes _ _ _ _ _ _ r c.check_of.ensures.reported in
    record {
      does = rw c.device-second.ensures.bytes at (bytes.ok both);
      stops = rw c.device-second.ensures.bytes at (bytes.err both);
      keeps = c.check_of.ensures.untouched;
      names = bytes.names;
      refuses = tt;
      unread = check_unread (g.F.FileSystem.files c.args.files.now).is_device_at g.F.Device.Source.log _ c.device-first.result c.check_of.new.first
          c.device-second.result c.check_of.new.second c.device-first.ensures.at c.device-second.ensures.at _ _ r c.check_of.ensures.reported;
      unwritten = check_unwritten _ _ _ _ _ _ r c.check_of.ensures.reported;
    }
