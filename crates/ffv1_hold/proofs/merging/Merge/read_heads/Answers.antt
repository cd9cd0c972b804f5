use Rattle.ffv1_hold.proofs.Common.{arith, rules, refl, inr, err_from_is_err_and}
use Rattle.ffv1_hold.proofs.JoinSteps.{OneStops-after, left_read, left_stops, right_stops}
use Rattle.ffv1_hold.proofs.merging.Merge.read_heads.Goals as goal

pub returns-in_err-first-clause-went : goal.returns-in_err-first-clause-went
returns-in_err-first-clause-went g c s =
    let p = err_from_is_err_and c.from_residual.result c.from_residual.ensures.1 in
    rw (p.1, p.2) (left_stops _ _ _ _ _ _ s 0 0 _ (omega arith) c.in_err-first.ensures.read)

pub returns-in_err-second-clause-went : goal.returns-in_err-second-clause-went
returns-in_err-second-clause-went g c s =
    let p = err_from_is_err_and c.from_residual-in_err-second.result c.from_residual-in_err-second.ensures.1 in
    let first = c.in_ok-first.ensures.read in
    rw (p.1, p.2) (OneStops-after _ _ _ _ _ _ (left_read _ _ _ s 0 _ 0 _ first) (right_stops _ _ _ _ _ _ s 0 _ _ first.text.within c.in_err-second.ensures.read))

pub returns-then-not-are_of_one_record-clause-err : goal.returns-then-not-are_of_one_record-clause-err
returns-then-not-are_of_one_record-clause-err g c =
    let first = c.in_ok-first.ensures in
    let second = c.in_ok-second.ensures in
    inr (inr (
      refl,
      record {
        left = c.in_ok-first.first;
        right = c.in_ok-second.second;
        left_is = first.reel;
        right_is = second.reel;
        left_has = first.has;
        right_has = second.has;
        left_version = c.read_head.new.self.version;
        right_version = c.read_head-2.new.self.version;
        left_taken = first.read.text.taken;
        right_taken = second.read.text.taken;
        other = search rules;
      },
    ))
