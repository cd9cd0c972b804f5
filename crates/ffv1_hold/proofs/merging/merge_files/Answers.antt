use Rattle.ffv1_hold.proofs.Common.{refl, inl, inr, err_from_is_err_and, Start, AreVersions, IsOpened}
use Rattle.ffv1_hold.proofs.MergeResults.{after_heads, never_other, touched_after}
use Rattle.ffv1_hold.proofs.JoinSteps.{MergeWent-after}
use Rattle.ffv1_hold.proofs.merging.merge_files.Goals as goal

pub returns-in_err-reels-clause-sink_untouched : goal.returns-in_err-reels-clause-sink_untouched
returns-in_err-reels-clause-sink_untouched g c =
    let p = err_from_is_err_and c.from_residual.result c.from_residual.ensures.1 in
    rw (p.1, p.2) (inr (inl refl))

pub returns : goal.returns
returns g c =
    let s : Start = record {
      recordings = c.args.recordings;
      left = (g.R.Source.log c.args.left.now).remaining;
      right = (g.Q.Source.log c.args.right.now).remaining;
      sink = (g.W.Sink.log c.args.sink.now).contents;
      left_reel = c.in_ok-reels.reels.left;
      right_reel = c.in_ok-reels.reels.right;
      left_version = c.read_heads.new.self.lefts.version;
      right_version = c.read_heads.new.self.rights.version;
    } in
    let o = c.in_ok-reels.ensures in
    let versions : AreVersions s _ _ = record { left_is = refl; right_is = refl } in
    let opened : IsOpened s c.in_ok-reels.reels.left c.in_ok-reels.reels.right _ _ _ _ _ =
    record {
      reels = record { left_is = o.left_reel; right_is = o.right_reel; one = o.one };
      left_has = o.left_has;
      right_has = o.right_has;
      left_same = refl;
      right_same = refl;
      left_head = o.left;
      right_head = o.right;
      unwritten = refl;
    } in
    let r = c.merge_after_heads.result in
    let done = c.merge_after_heads.ensures in
    record {
      ok = done.ok s versions opened;
      most = done.most s versions opened;
      err = after_heads _ _ _ r (done.err s versions opened);
      untouched = never_other _ _ _ _ r (done.err s versions opened);
      sink_untouched = touched_after g.W.Sink.log _ _ _ _ _ _ _ _ _ r (done.err s versions opened) done.went;
      went = MergeWent-after r _ _ _ _ _ _ (o.went (g.W.Sink.log c.args.sink.now)) done.went;
    }
