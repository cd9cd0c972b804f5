use Rattle.std.proofs.Common.{inr}
use Rattle.ffv1_commands.proofs.DecodeSteps.{decode_of_bytes}
use Rattle.ffv1_program.proofs.Runs.{all_ok, all_err}
use Rattle.ffv1_program.proofs.Unread.{decode_unread}
use Rattle.ffv1_program.proofs.Unwritten.{err_out_also, decode_unwritten}
use Rattle.ffv1_program.proofs.pictures.decode_files.Goals as goal

pub returns : goal.returns
returns g c recordings out =
    let r = c.decode_of.result in
    let bytes = decode_of_bytes _ _ (g.F.Device.Source.log c.device.result) (g.F.Device.Source.log c.decode_of.new.configuration)
    (g.F.Device.Source.log c.device-2.result) (g.F.Device.Source.log c.decode_of.new.input) _ _ _ _ r c.decode_of.ensures.reported in
    record {
      does = all_ok r _ (rw (c.device.ensures.bytes, c.device-2.ensures.bytes) at bytes.ok);
      stops = all_err r _ (rw (c.device.ensures.bytes, c.device-2.ensures.bytes) at bytes.err);
      keeps = all_err r _ c.decode_of.ensures.untouched;
      names = all_err r _ bytes.names;
      refuses = tt;
      unread = all_err r _ (decode_unread (g.F.FileSystem.files c.args.files.now).is_device_at g.F.Device.Source.log _ _ c.device.result c.decode_of.new.configuration c.device-2.result
          c.decode_of.new.input c.device.ensures.at c.device-2.ensures.at _ _ _ _ _ _ r c.decode_of.ensures.reported);
      unwritten = all_err r _ (err_out_also _ _ _ r inr (decode_unwritten _ _ _ _ _ _ _ _ _ _ r c.decode_of.ensures.reported));
    }
