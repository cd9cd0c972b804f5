use Rattle.std.proofs.Common.{rules, inr}
use Rattle.ffv1_program.specs.Merging.{IsEither}
use Rattle.ffv1_commands.specs.declared.path.CommandPath.TheVariants as paths
use Rattle.ffv1_commands.proofs.MergedFiles.{merge_of_bytes}
use Rattle.ffv1_program.proofs.Begun.{not_begun, merging_stops}
use Rattle.ffv1_program.proofs.Runs.{all_ok, all_err, err_both, touched_bytes}
use Rattle.ffv1_program.proofs.Unread.{merge_unread}
use Rattle.ffv1_program.proofs.Unwritten.{err_out_also, merge_unwritten}
use Rattle.ffv1_program.proofs.holdings.merge_files.Goals as goal

pub returns : goal.returns
returns g c =
    let r = c.merge_of.result in
    let bytes = merge_of_bytes c.args.recordings _ _ r c.merge_of.ensures.reported in
    record {
      does = all_ok r _ (rw (c.in-Ok.ensures.bytes, c.in-Ok-opened.ensures.bytes) at bytes.ok);
      stops = all_err r _ (merging_stops c.args.recordings (IsEither c.args.out.now c.args.left.now c.args.right.now) (g.F.FileSystem.files c.args.files.now).cannot_open_at
          c.args.left.now c.args.right.now _ _ _ _ r (rw (c.in-Ok.ensures.bytes, c.in-Ok-opened.ensures.bytes) at bytes.err)
          (rw (c.in-Ok.ensures.bytes, c.in-Ok-opened.ensures.bytes) at bytes.leaves));
      keeps = all_err r _ (err_both r _ _ (not_begun c.args.recordings (g.F.Device.Source.log c.in-Ok.left).remaining
          (g.F.Device.Source.log c.in-Ok-opened.right).remaining _ r bytes.err c.merge_of.ensures.untouched)
          (touched_bytes paths.Out g.O.Sink.log c.args.made.now c.merge_of.new.out r c.merge_of.ensures.out_untouched));
      unread = all_err r _ (merge_unread c.args.recordings (g.F.FileSystem.files c.args.files.now).is_opened_at g.F.Device.Source.log (g.F.FileSystem.files c.args.files.now).cannot_open_at
          c.args.left.now c.args.right.now c.in-Ok.left c.merge_of.new.left c.in-Ok-opened.right c.merge_of.new.right c.in-Ok.ensures.at c.in-Ok-opened.ensures.at _ _ r c.merge_of.ensures.reported);
      unwritten = all_err r _ (err_out_also _ _ _ r inr (merge_unwritten c.args.recordings _ _ _ _ _ _ r c.merge_of.ensures.reported));
      refuses = search rules;
      names = all_err r _ bytes.names;
    }
