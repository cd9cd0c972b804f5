use Rattle.std.proofs.Common.{◌∙◌, ap, map, rules, inr}
use Rattle.ffv1_commands.proofs.TakeReported.{take_of_bytes}
use Rattle.ffv1_program.proofs.Unread.{take_unread}
use Rattle.ffv1_program.proofs.Unwritten.{err_out_also, take_unwritten}
use Rattle.ffv1_program.proofs.holdings.take_files.Goals as goal

pub returns : goal.returns
returns g c out =
    let r = c.take_of.result in
    let bytes = take_of_bytes c.args.recordings _ _ _ _ _ _ _ _ _ _ _ r c.take_of.ensures.reported in
    let copies = ap (map (λ source. (g.F.Device.Source.log source).remaining)) c.as_mut_slice.ensures.value ∙ c.in_ok-copies.ensures.bytes in
    let at = rw (c.as_slice.ensures.value, ← c.as_mut_slice.ensures.value) at c.in_ok-copies.ensures.at in
    record {
      does = rw (c.device.ensures.bytes, copies, c.as_slice.ensures.value) at bytes.ok;
      stops = rw (c.device.ensures.bytes, copies, c.as_slice.ensures.value) at bytes.err;
      keeps = c.take_of.ensures.untouched;
      unread = take_unread (g.F.FileSystem.files c.args.files.now).is_device_at g.F.Device.Source.log c.args.copies.now.items _ _ at _ c.device.result
          c.take_of.new.configuration c.device.ensures.at c.args.recordings _ _ _ _ _ _ _ r c.take_of.ensures.reported c.take_of.ensures.unread;
      unwritten = err_out_also _ _ _ r inr (take_unwritten _ _ _ _ _ _ c.args.recordings _ _ _ _ _ r c.take_of.ensures.reported);
      refuses = tt;
      names = search (rules, bytes.names);
    }
