use Rattle.std.proofs.Common.{◌+◌, get_or, take, drop, suc, arith, refl, sym, ap, subst, ◌∙◌, take_all}
use Rattle.std.proofs.lemmas.Result.{err_from_is_err_and}
use Rattle.std.proofs.lemmas.List.{take_more}
use Rattle.ffv1_scan.specs.declared.ranges.ByteRange.{ByteRange}
use Rattle.ffv1_scan.specs.Ranges.{Rises, ranges_end}
use Rattle.ffv1_scan.proofs.LineSteps.{rises_after, ranges_end-push}
use Rattle.ffv1_scan.proofs.ScanSteps.{scanned_none, never_opened, judging_stops, scanned_more, line_stops, nothing_scanned, all_scanned, number_at, parted_at}
use Rattle.ffv1_scan.proofs.scanning.scan.Goals as goal

-- what an index past the end would read
abbrev no_range : ByteRange
no_range = record { place = 0; size = 0 }

pub returns-in_err-room : goal.returns-in_err-room
returns-in_err-room g c =
    let p = err_from_is_err_and c.from_residual.result c.from_residual.ensures.1 in
    rw (p.1, p.2, c.in_err-room.ensures.err) (nothing_scanned c.args.ranges.now _ _ c.requires)

pub returns-in_err-open : goal.returns-in_err-open
returns-in_err-open g c =
    let p = err_from_is_err_and c.from_residual-in_err-open.result c.from_residual-in_err-open.ensures.1 in
    rw (p.1, p.2, c.in_err-open.ensures.fault) (never_opened c.args.ranges.now _ _ _ c.in_err-open.ensures.read)

pub loop-index-init : goal.loop-index-init
loop-index-init g c = record { room = c.in_ok-room.ensures.ok; last = refl; scan = scanned_none _ _ _ c.in_ok-open.ensures.read }

pub judge_next-requires-clause-follows : goal.judge_next-requires-clause-follows
judge_next-requires-clause-follows g c =
    let ranges = c.args.ranges.now in
    let i = c.loop-index.index in
    let split = parted_at ranges i no_range c.loop-index-test.true in
    let le = rises_after 0 (take i ranges) (get_or ranges i no_range) (drop (suc i) ranges) (subst (Rises 0) split c.requires) in
    omega (arith, le, c.loop-index.invariant.last)

pub returns-in_err-verdict : goal.returns-in_err-verdict
returns-in_err-verdict g c =
    let p = err_from_is_err_and c.from_residual-in_err-verdict.result c.from_residual-in_err-verdict.ensures.1 in
    let ranges = c.args.ranges.now in
    let i = c.loop-index.index in
    rw (p.1, p.2) (judging_stops ranges (take i ranges) (get_or ranges i no_range) (drop (suc i) ranges)
    (parted_at ranges i no_range c.loop-index-test.true) c.requires _ _ _ _ _ c.loop-index.invariant.scan c.loop-index.last c.loop-index.invariant.last
    _ c.in_err-verdict.field-0.0 c.in_err-verdict.ensures.judged)

pub returns-in_err-write_line : goal.returns-in_err-write_line
returns-in_err-write_line g c =
    let p = err_from_is_err_and c.from_residual-in_err-write_line.result c.from_residual-in_err-write_line.ensures.1 in
    let ranges = c.args.ranges.now in
    let i = c.loop-index.index in
    rw (p.1, p.2) (line_stops ranges (take i ranges) (get_or ranges i no_range) (drop (suc i) ranges)
    (parted_at ranges i no_range c.loop-index-test.true) c.requires _ _ _ _ _ c.loop-index.invariant.scan c.loop-index.last c.loop-index.invariant.last
    _ c.in_ok-verdict.verdict c.in_ok-verdict.ensures.judged (i + 1) (number_at ranges i c.loop-index-test.true)
    _ c.in_err-write_line.field-0.0 c.in_err-write_line.ensures)

pub loop-index-preserved : goal.loop-index-preserved
loop-index-preserved g c =
    let ranges = c.args.ranges.now in
    let i = c.loop-index.index in
    let range = get_or ranges i no_range in
    let inv = c.loop-index.invariant in
    let more = take_more ranges i no_range c.loop-index-test.true in
    record {
      room = c.in_ok-verdict.ensures.room;
      last = sym (ap (ranges_end 0) more ∙ ranges_end-push 0 (take i ranges) range);
      scan = scanned_more ranges (take i ranges) range (drop (suc i) ranges)
          (parted_at ranges i no_range c.loop-index-test.true) c.requires _ _ _ _ _ inv.scan c.loop-index.last inv.last
          _ c.in_ok-verdict.verdict c.in_ok-verdict.ensures.judged (i + 1) (number_at ranges i c.loop-index-test.true)
          _ c.in_ok-write_line.ensures (take (i + 1) ranges) more _ c.is_undamaged-undamaged.ensures;
    }

pub returns : goal.returns
returns g c =
    let ranges = c.args.ranges.now in
    all_scanned ranges (take c.loop-index.index ranges) _ _ _ _ c.loop-index.undamaged
    (take_all c.loop-index.index ranges (omega (arith, c.loop-index-test.false))) c.loop-index.invariant.scan
