use Rattle.ffv1_commands.proofs.ScanCommandSteps.{scan_of_bytes}
use Rattle.ffv1_commands.proofs.MendCommandSteps.{of_list_so}
use Rattle.ffv1_commands.specs.declared.path.CommandPath.TheVariants.{Ranges}
use Rattle.ffv1_program.proofs.Unread.{scan_unread}
use Rattle.ffv1_program.proofs.Unwritten.{scan_unwritten}
use Rattle.ffv1_program.proofs.frames.scan_files.Goals as goal

pub returns : goal.returns
returns g c recordings =
    let r = c.scan_of.result in
    let bytes = scan_of_bytes _ _ _ _ _ _ r c.scan_of.ensures.scans in
    record {
      does = rw (c.device.ensures.bytes, c.device-2.ensures.bytes) at bytes.ok;
      stops = rw (c.device.ensures.bytes, c.device-2.ensures.bytes) at bytes.err;
      keeps = of_list_so Ranges r (λ kept. kept.1) c.scan_of.ensures.in_turn;
      refuses = tt;
      names = c.scan_of.ensures.names;
      unread = scan_unread (g.F.FileSystem.files c.args.files.now).is_device_at g.F.Device.Source.log _ _ c.device.result c.scan_of.new.ranges c.device-2.result
          c.scan_of.new.file c.device.ensures.at c.device-2.ensures.at _ _ r c.scan_of.ensures.scans;
      unwritten = scan_unwritten _ _ _ _ _ _ r c.scan_of.ensures.scans;
    }
