use Rattle.ffv1_hold.proofs.Common.{common_steps, ◌≡◌, ℕ, ◌+◌, ◌-◌, ◌≤◌, length, arith, ap, ◌∙◌, file_limit, record_limit, err_from_is_err_and}
use Rattle.ffv1_hold.proofs.JoinSteps.{AllGoOn-trans, OneStops-after, left_read, right_read, left_stops, right_stops, wrote, sink_stops}
use Rattle.ffv1_hold.proofs.MergeStarts.{union_fits, head_stops, first_left_stops, first_right_stops, left_held, right_held, opened_stands}
use Rattle.ffv1_hold.proofs.MergeSteps.{next_is, same_version_entry}
use Rattle.ffv1_hold.proofs.merging.Merge.begin.Goals as goal

pub returns-in_err-write_head-clause-err : goal.returns-in_err-write_head-clause-err
returns-in_err-write_head-clause-err g c s is o =
    let p = err_from_is_err_and c.from_residual.result c.from_residual.ensures.1 in
    rw (p.1, p.2) (head_stops s _ _ _ _ _ _ _ o c.of_both-reel.result.now c.of_both-reel.ensures _ c.in_err-write_head.ensures.front)

pub returns-in_err-write_head-clause-went : goal.returns-in_err-write_head-clause-went
returns-in_err-write_head-clause-went g c =
    let p = err_from_is_err_and c.from_residual.result c.from_residual.ensures.1 in
    rw (p.1, p.2) (sink_stops _ _ _ _ _ _ c.in_err-write_head.ensures c.requires.left_place c.requires.right_place)

pub returns-in_err-advance-clause-err : goal.returns-in_err-advance-clause-err
returns-in_err-advance-clause-err g c s is o =
    let p = err_from_is_err_and c.from_residual-in_err-advance.result c.from_residual-in_err-advance.ensures.1 in
    rw (p.1, p.2) (first_left_stops s _ _ _ _ _ _ _ o _ _ _ _ _ c.requires.left_held is.left_is
    c.in_err-advance.ensures.read.fault c.of_both-reel.result.now c.of_both-reel.ensures c.in_ok-write_head.ensures.bytes')

pub returns-in_err-advance-clause-went : goal.returns-in_err-advance-clause-went
returns-in_err-advance-clause-went g c =
    let p = err_from_is_err_and c.from_residual-in_err-advance.result c.from_residual-in_err-advance.ensures.1 in
    rw (p.1, p.2) (OneStops-after _ _ _ _ _ _ (wrote _ _ _ _ _ _ c.in_ok-write_head.ensures)
    (left_stops _ _ _ _ _ _ _ _ _ _ c.requires.right_place c.in_err-advance.ensures.read))

pub returns-in_err-advance-2-clause-err : goal.returns-in_err-advance-2-clause-err
returns-in_err-advance-2-clause-err g c s is o =
    let p = err_from_is_err_and c.from_residual-in_err-advance-2.result c.from_residual-in_err-advance-2.ensures.1 in
    let one = c.in_ok-advance.ensures in
    let held = left_held s _ _ _ _ _ _ _ o _ _ _ _ _ c.requires.left_held is.left_is one.read.text
    (next_is _ _ _ _ _ one.entry one.follows one.keeps one.end_keeps one.end) in
    rw (p.1, p.2) (first_right_stops s _ _ _ _ _ _ _ o _ _ _ _ _ _ _ _ c.requires.right_held is.right_is
    c.in_err-advance-2.ensures.read.fault held c.of_both-reel.result.now c.of_both-reel.ensures c.in_ok-write_head.ensures.bytes')

pub returns-in_err-advance-2-clause-went : goal.returns-in_err-advance-2-clause-went
returns-in_err-advance-2-clause-went g c =
    let p = err_from_is_err_and c.from_residual-in_err-advance-2.result c.from_residual-in_err-advance-2.ensures.1 in
    let first = c.in_ok-advance.ensures.read in
    rw (p.1, p.2) (OneStops-after _ _ _ _ _ _ (AllGoOn-trans _ _ _ _ _ _ (wrote _ _ _ _ _ _ c.in_ok-write_head.ensures) (left_read _ _ _ _ _ _ _ _ first))
    (right_stops _ _ _ _ _ _ _ _ _ _ first.text.within c.in_err-advance-2.ensures.read))

-- the head's bytes are taken off a file's room, and come back with it
room_left : (room long size : ℕ) → room ≡ file_limit → long ≡ size → size ≤ record_limit → room - (20 + long) + (20 + size) ≡ file_limit
room_left room long size full same fits = omega arith

within_file : (room more : ℕ) → room + more ≡ file_limit → room ≤ file_limit
within_file room more is = omega arith

pub returns : goal.returns
returns g c =
    let head = c.in_ok-write_head.ensures in
    let one = c.in_ok-advance.ensures in
    let two = c.in_ok-advance-2.ensures in
    let room = room_left _ _ _ c.requires.room (ap length c.config.ensures)
    (union_fits _ _ c.of_both-reel.result.now c.requires.one c.of_both-reel.ensures c.requires.reel) in
    record {
      left_place = one.read.text.within;
      right_place = two.read.text.within;
      left_entry = grind (arith, common_steps, same_version_entry);
      right_entry = grind (arith, common_steps, same_version_entry);
      room = within_file _ _ room;
      ok = λ s is o.
          let left = left_held s _ _ _ _ _ _ _ o _ _ _ _ _ c.requires.left_held is.left_is one.read.text
          (next_is _ _ _ _ _ one.entry one.follows one.keeps one.end_keeps one.end) in
          let right = right_held s _ _ _ _ _ _ _ o _ _ _ _ _ c.requires.right_held is.right_is two.read.text
          (next_is _ _ _ _ _ two.entry two.follows two.keeps two.end_keeps two.end) in (
            record { left_is = one.version ∙ is.left_is; right_is = two.version ∙ is.right_is },
            opened_stands s _ _ _ _ _ _ _ o _ _ _ _ _ _ _ _ left right (one.bytes c.requires.left_held) (two.bytes c.requires.right_held)
                c.of_both-reel.result.now c.of_both-reel.ensures head.bytes' room,
          );
      err = λ s is o. tt;
      went = grind (arith, common_steps, AllGoOn-trans, wrote, left_read, right_read);
    }
