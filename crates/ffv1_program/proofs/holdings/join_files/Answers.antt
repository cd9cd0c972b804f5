use Rattle.std.proofs.Common.{◌∙◌, ap, map, rules, inr}
use Rattle.ffv1_commands.proofs.JoinedFiles.{join_of_bytes}
use Rattle.ffv1_program.proofs.Runs.{all_ok, all_err}
use Rattle.ffv1_program.proofs.Unread.{join_unread}
use Rattle.ffv1_program.proofs.Unwritten.{err_out_also, join_unwritten}
use Rattle.ffv1_program.proofs.holdings.join_files.Goals as goal

pub returns : goal.returns
returns g c out =
    let r = c.join_of.result in
    let bytes = join_of_bytes c.args.recordings _ _ _ _ _ _ _ _ _ r c.join_of.ensures.reported in
    let others = ap (map (λ source. (g.F.Buffered.Source.log source).remaining)) c.as_mut_slice.ensures.value ∙ c.in_ok-others.ensures.bytes in
    let at = rw (c.as_slice.ensures.value, ← c.as_mut_slice.ensures.value) at c.in_ok-others.ensures.at in
    record {
      does = all_ok r _ (rw (c.in_ok-first.ensures.bytes, others, c.as_slice.ensures.value) at bytes.ok);
      stops = all_err r _ (rw (c.in_ok-first.ensures.bytes, others, c.as_slice.ensures.value) at bytes.err);
      keeps = all_err r _ c.join_of.ensures.untouched;
      unread = all_err r _ (join_unread c.args.recordings (g.F.FileSystem.files c.args.files.now).is_buffered_at g.F.Buffered.Source.log c.args.others.now.items _ _ at _
          c.in_ok-first.first c.join_of.new.first c.in_ok-first.ensures.at _ _ _ _ _ r c.join_of.ensures.reported c.join_of.ensures.unread);
      unwritten = all_err r _ (err_out_also _ _ _ r inr (join_unwritten _ _ _ _ _ _ c.args.recordings _ _ _ r c.join_of.ensures.reported));
      refuses = tt;
      names = all_err r _ (search (rules, bytes.names));
    }
