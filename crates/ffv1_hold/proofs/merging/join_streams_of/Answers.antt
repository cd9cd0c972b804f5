use Rattle.ffv1_hold.proofs.MergeResults.{returns_union, returns_other, join_refuses, left_first, writes_no_end, write_stops, left_stays, right_stays, says, says_write, wrote_most}
use Rattle.ffv1_hold.proofs.merging.join_streams_of.Goals as goal

pub returns-clause-streams : goal.returns-clause-streams
returns-clause-streams g c =
    let r = c.merge_files.result in
    let done = c.merge_files.ensures in
    record {
      union = done.ok;
      only = λ v w one two same taken also left right. returns_union _ _ _ v w one two same taken also left right r done.err;
      other = λ one two left right other. returns_other _ _ _ one two left right other r done.ok done.err;
      fault = says _ _ _ _ (join_refuses _ _ _) r done.err;
      left_first = says _ _ _ _ (left_first _ _ _) r done.err;
      left_read_limit = λ v h beside file also. says_write _ _ _ _ (left_stays _ _ _ v h beside file also) r done.err;
      right_read_limit = λ v h beside file also. says_write _ _ _ _ (right_stays _ _ _ v h beside file also) r done.err;
      write = says_write _ _ _ _ (λ stops. (write_stops _ _ _ stops).4.front) r done.err;
      no_end = says _ _ _ _ (writes_no_end _ _ _) r done.err;
      most = wrote_most _ _ _ r done.most done.err;
      went = done.went;
    }
