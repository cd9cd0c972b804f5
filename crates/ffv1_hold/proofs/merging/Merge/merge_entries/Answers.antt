use Rattle.ffv1_hold.proofs.Common.{common_steps, ◌≡◌, ℕ, ◌+◌, ◌≤◌, subst, arith, file_limit, Less, Equal, Greater, err_from_is_err_and, IsTurn, Ordering, AllGoOn}
use Rattle.ffv1_hold.proofs.JoinSteps.{AllGoOn-trans, OneStops-after, left_read, right_read, left_stops, right_stops, wrote, entry_stopped}
use Rattle.ffv1_hold.proofs.MergeSteps.{entry_stops, left_shows_none, less_stands, greater_stands, equal_stands, left_refused, right_refused, left_now_shows_none, next_is, ends, same_version_entry}
use Rattle.ffv1_hold.proofs.merging.Merge.merge_entries.Given.{Over}
use Rattle.ffv1_hold.proofs.merging.Merge.merge_entries.Goals.{In_ok-write_entry}
use Rattle.ffv1_hold.proofs.merging.Merge.merge_entries.Goals as goal

room_left : (left long room : ℕ) → left + long ≡ room → room ≤ file_limit → left ≤ file_limit
room_left left long room is fits = omega arith

pub returns-in_err-write_entry-clause-err : goal.returns-in_err-write_entry-clause-err
returns-in_err-write_entry-clause-err g c start left_same right_same is first =
    let p = err_from_is_err_and c.from_residual.result c.from_residual.ensures.1 in
    rw (p.1, p.2) (entry_stops start _ _ _ _ _ _ _ _ (c.loop-entry.invariant.stands start left_same right_same is first).1 _ c.in-Some.entry.now c.in-Some.others.now
    c.in-Some.order _ c.in-Some.ensures.some c.in_err-write_entry.ensures.stops)

pub returns-in_err-write_entry-clause-went : goal.returns-in_err-write_entry-clause-went
returns-in_err-write_entry-clause-went g c =
    let p = err_from_is_err_and c.from_residual.result c.from_residual.ensures.1 in
    let inv = c.loop-entry.invariant in
    rw (p.1, p.2) (OneStops-after _ _ _ _ _ _ inv.went (entry_stopped _ _ _ _ _ _ _ _ c.in_err-write_entry.ensures inv.left_place inv.right_place))

-- ---- after an entry was written

module _ (g : Over) (c : In_ok-write_entry g) where
  turn_is : (o : Ordering) → c.in-Some.order ≡ o → IsTurn c.loop-entry.self.lefts.held c.loop-entry.self.rights.held c.in-Some.entry.now c.in-Some.others.now o
  turn_is o is = subst (IsTurn c.loop-entry.self.lefts.held c.loop-entry.self.rights.held c.in-Some.entry.now c.in-Some.others.now) is c.in-Some.ensures.some

  went_on : AllGoOn (record { left = g.R.Source.log c.args.left.now; right = g.Q.Source.log c.args.right.now; sink = g.W.Sink.log c.args.sink.now })
      (record { left = g.R.Source.log c.loop-entry.left; right = g.Q.Source.log c.loop-entry.right; sink = g.W.Sink.log c.write_entry.new.sink })
      (c.args.self.now.lefts.place, c.args.self.now.rights.place) (c.loop-entry.self.lefts.place, c.loop-entry.self.rights.place)
  went_on = AllGoOn-trans _ _ _ _ _ _ c.loop-entry.invariant.went (wrote _ _ _ _ _ _ c.in_ok-write_entry.ensures.0)

-- ---- the left input's entry was written

pub loop-entry-preserved-in-Continue-branch-2 : goal.loop-entry-preserved-in-Continue-branch-2
loop-entry-preserved-in-Continue-branch-2 g c =
    let turn = turn_is g (goal.at.loop-entry-preserved-in-Continue-branch-2 g c).In_ok-write_entry Less c.in-Less.is in
    let inv = c.loop-entry.invariant in
    let done = c.in_ok-write_entry.ensures in
    let read = c.in_ok-advance-in-Less.ensures in
    record {
      stands = λ start left_same right_same is first. let now = inv.stands start left_same right_same is first in
          less_stands start _ _ _ _ _ _ _ _ now.1 _ _ _ _ done.0.bytes' done.1 _ _ now.0 _ _ left_same right_same turn _ _ _ _ read.version
          read.read.text (next_is _ _ _ _ _ read.entry read.follows read.keeps read.end_keeps read.end);
      room = room_left _ _ _ done.1 inv.room;
      left_place = read.read.text.within;
      right_place = inv.right_place;
      left_entry = same_version_entry _ _ _ _ read.version read.entry;
      right_entry = inv.right_entry;
      went = grind (arith, common_steps, AllGoOn-trans, went_on, left_read);
    }

pub returns-in_err-advance-in-Less-clause-err : goal.returns-in_err-advance-in-Less-clause-err
returns-in_err-advance-in-Less-clause-err g c start left_same right_same is first =
    let p = err_from_is_err_and c.from_residual-in_err-advance-in-Less.result c.from_residual-in_err-advance-in-Less.ensures.1 in
    let turn = turn_is g (goal.at.returns-in_err-advance-in-Less-clause-err g c).In_ok-write_entry Less c.in-Less.is in
    let now = c.loop-entry.invariant.stands start left_same right_same is first in
    let done = c.in_ok-write_entry.ensures in
    rw (p.1, p.2) (left_refused start _ _ _ _ _ _ _ _ now.1 _ _ _ _ done.0.bytes' done.1 _ _ now.0 _ _ left_same right_same Less turn turn.0 _ _
    c.in_err-advance-in-Less.ensures.read.fault)

pub returns-in_err-advance-in-Less-clause-went : goal.returns-in_err-advance-in-Less-clause-went
returns-in_err-advance-in-Less-clause-went g c =
    let p = err_from_is_err_and c.from_residual-in_err-advance-in-Less.result c.from_residual-in_err-advance-in-Less.ensures.1 in
    rw (p.1, p.2) (OneStops-after _ _ _ _ _ _ (went_on g (goal.at.returns-in_err-advance-in-Less-clause-went g c).In_ok-write_entry)
    (left_stops _ _ _ _ _ _ _ _ _ _ c.loop-entry.invariant.right_place c.in_err-advance-in-Less.ensures.read))

-- ---- the right input's entry was written

pub loop-entry-preserved-in-Continue-branch-3 : goal.loop-entry-preserved-in-Continue-branch-3
loop-entry-preserved-in-Continue-branch-3 g c =
    let turn = turn_is g (goal.at.loop-entry-preserved-in-Continue-branch-3 g c).In_ok-write_entry Greater c.in-Greater.is in
    let inv = c.loop-entry.invariant in
    let done = c.in_ok-write_entry.ensures in
    let read = c.in_ok-advance-in-Greater.ensures in
    record {
      stands = λ start left_same right_same is first. let now = inv.stands start left_same right_same is first in
          greater_stands start _ _ _ _ _ _ _ _ now.1 _ _ _ _ done.0.bytes' done.1 _ _ now.0 _ _ left_same right_same turn _ _ _ _ read.version
          read.read.text (next_is _ _ _ _ _ read.entry read.follows read.keeps read.end_keeps read.end);
      room = room_left _ _ _ done.1 inv.room;
      left_place = inv.left_place;
      right_place = read.read.text.within;
      left_entry = inv.left_entry;
      right_entry = same_version_entry _ _ _ _ read.version read.entry;
      went = grind (arith, common_steps, AllGoOn-trans, went_on, right_read);
    }

pub returns-in_err-advance-in-Greater-clause-err : goal.returns-in_err-advance-in-Greater-clause-err
returns-in_err-advance-in-Greater-clause-err g c start left_same right_same is first =
    let p = err_from_is_err_and c.from_residual-in_err-advance-in-Greater.result c.from_residual-in_err-advance-in-Greater.ensures.1 in
    let turn = turn_is g (goal.at.returns-in_err-advance-in-Greater-clause-err g c).In_ok-write_entry Greater c.in-Greater.is in
    let now = c.loop-entry.invariant.stands start left_same right_same is first in
    let done = c.in_ok-write_entry.ensures in
    rw (p.1, p.2) (right_refused start _ _ _ _ _ _ _ _ now.1 _ _ _ _ done.0.bytes' done.1 _ _ now.0 _ _ left_same right_same Greater turn _ turn.0 _ _
    (left_shows_none start _ _ _ _ _ _ _ _ now.1) _ c.in_err-advance-in-Greater.ensures.read.fault)

pub returns-in_err-advance-in-Greater-clause-went : goal.returns-in_err-advance-in-Greater-clause-went
returns-in_err-advance-in-Greater-clause-went g c =
    let p = err_from_is_err_and c.from_residual-in_err-advance-in-Greater.result c.from_residual-in_err-advance-in-Greater.ensures.1 in
    rw (p.1, p.2) (OneStops-after _ _ _ _ _ _ (went_on g (goal.at.returns-in_err-advance-in-Greater-clause-went g c).In_ok-write_entry)
    (right_stops _ _ _ _ _ _ _ _ _ _ c.loop-entry.invariant.left_place c.in_err-advance-in-Greater.ensures.read))

-- ---- both have the entry that was written

pub returns-in_err-advance-in-Equal-clause-err : goal.returns-in_err-advance-in-Equal-clause-err
returns-in_err-advance-in-Equal-clause-err g c start left_same right_same is first =
    let p = err_from_is_err_and c.from_residual-in_err-advance-in-Equal.result c.from_residual-in_err-advance-in-Equal.ensures.1 in
    let turn = turn_is g (goal.at.returns-in_err-advance-in-Equal-clause-err g c).In_ok-write_entry Equal c.in-Equal.is in
    let now = c.loop-entry.invariant.stands start left_same right_same is first in
    let done = c.in_ok-write_entry.ensures in
    rw (p.1, p.2) (left_refused start _ _ _ _ _ _ _ _ now.1 _ _ _ _ done.0.bytes' done.1 _ _ now.0 _ _ left_same right_same Equal turn turn.0 _ _
    c.in_err-advance-in-Equal.ensures.read.fault)

pub returns-in_err-advance-in-Equal-clause-went : goal.returns-in_err-advance-in-Equal-clause-went
returns-in_err-advance-in-Equal-clause-went g c =
    let p = err_from_is_err_and c.from_residual-in_err-advance-in-Equal.result c.from_residual-in_err-advance-in-Equal.ensures.1 in
    rw (p.1, p.2) (OneStops-after _ _ _ _ _ _ (went_on g (goal.at.returns-in_err-advance-in-Equal-clause-went g c).In_ok-write_entry)
    (left_stops _ _ _ _ _ _ _ _ _ _ c.loop-entry.invariant.right_place c.in_err-advance-in-Equal.ensures.read))

pub returns-in_err-advance-in-Equal-2-clause-err : goal.returns-in_err-advance-in-Equal-2-clause-err
returns-in_err-advance-in-Equal-2-clause-err g c start left_same right_same is first =
    let p = err_from_is_err_and c.from_residual-in_err-advance-in-Equal-2.result c.from_residual-in_err-advance-in-Equal-2.ensures.1 in
    let turn = turn_is g (goal.at.returns-in_err-advance-in-Equal-2-clause-err g c).In_ok-write_entry Equal c.in-Equal.is in
    let now = c.loop-entry.invariant.stands start left_same right_same is first in
    let done = c.in_ok-write_entry.ensures in
    let read = c.in_ok-advance-in-Equal.ensures in
    rw (p.1, p.2) (right_refused start _ _ _ _ _ _ _ _ now.1 _ _ _ _ done.0.bytes' done.1 _ _ now.0 _ _ left_same right_same Equal turn _ turn.1 _ _
    (left_now_shows_none start _ _ _ _ _ _ _ _ now.1 _ _ _ _ done.0.bytes' done.1 _ _ now.0 _ _ left_same right_same turn _ _ _
    read.read.text (next_is _ _ _ _ _ read.entry read.follows read.keeps read.end_keeps read.end)) _ c.in_err-advance-in-Equal-2.ensures.read.fault)

pub returns-in_err-advance-in-Equal-2-clause-went : goal.returns-in_err-advance-in-Equal-2-clause-went
returns-in_err-advance-in-Equal-2-clause-went g c =
    let p = err_from_is_err_and c.from_residual-in_err-advance-in-Equal-2.result c.from_residual-in_err-advance-in-Equal-2.ensures.1 in
    let went = went_on g (goal.at.returns-in_err-advance-in-Equal-2-clause-went g c).In_ok-write_entry in
    let read = c.in_ok-advance-in-Equal.ensures.read in
    rw (p.1, p.2) (OneStops-after _ _ _ _ _ _ (AllGoOn-trans _ _ _ _ _ _ went (left_read _ _ _ _ _ _ _ _ read))
    (right_stops _ _ _ _ _ _ _ _ _ _ read.text.within c.in_err-advance-in-Equal-2.ensures.read))

pub loop-entry-preserved : goal.loop-entry-preserved
loop-entry-preserved g c =
    let turn = turn_is g (goal.at.loop-entry-preserved g c).In_ok-write_entry Equal c.in-Equal.is in
    let inv = c.loop-entry.invariant in
    let done = c.in_ok-write_entry.ensures in
    let read = c.in_ok-advance-in-Equal.ensures in
    let also = c.in_ok-advance-in-Equal-2.ensures in
    record {
      stands = λ start left_same right_same is first. let now = inv.stands start left_same right_same is first in
          equal_stands start _ _ _ _ _ _ _ _ now.1 _ _ _ _ done.0.bytes' done.1 _ _ now.0 _ _ left_same right_same turn _ _ _
          read.read.text (next_is _ _ _ _ _ read.entry read.follows read.keeps read.end_keeps read.end) _ _ _ _ _ read.version also.version also.read.text (next_is _ _ _ _ _ also.entry also.follows also.keeps also.end_keeps also.end);
      room = room_left _ _ _ done.1 inv.room;
      left_place = read.read.text.within;
      right_place = also.read.text.within;
      left_entry = same_version_entry _ _ _ _ read.version read.entry;
      right_entry = same_version_entry _ _ _ _ also.version also.entry;
      went = grind (arith, common_steps, AllGoOn-trans, went_on, left_read, right_read);
    }

pub returns-clause-ok : goal.returns-clause-ok
returns-clause-ok g c start left_same right_same is first =
    let none = rw c.in_default.is at c.next_entry.ensures.none in
    ends start _ _ _ _ _ _ _ _ none.0 none.1 (c.loop-entry.invariant.stands start left_same right_same is first).1
