use Rattle.std.proofs.Common.{rules as steps}
use Rattle.std.proofs.lemmas.Result.{err_from_is_err_and}
use Rattle.ffv1_hold.specs.Restorations.{IsRestored}
use Rattle.ffv1_hold.proofs.Restorations.{exact_restores, near_plan}
use Rattle.ffv1_hold.specs.Plans.{CanBeCarriedOut}
use Rattle.ffv1_player.specs.Restored.{IsHoldingFor}
use Rattle.ffv1_player.proofs.PlanRestorations.{equal_in_all, held_exactly}
use Rattle.ffv1_player.proofs.restored.any_restored.Goals.{In_ok-holding}
use Rattle.ffv1_player.proofs.restored.any_restored.Goals as goal

pub returns-in_err-holding-clause-fault : goal.returns-in_err-holding-clause-fault
returns-in_err-holding-clause-fault c =
    let p = err_from_is_err_and c.from_residual.result c.from_residual.ensures.1 in
    rw (p.1, p.2) c.in_err-holding.ensures.fault

-- the plan was carried out
carried : (c : In_ok-holding) → CanBeCarriedOut c.args.recordings c.args.config.now c.args.width c.args.height c.args.plan.now
carried c =
    let e = c.in_ok-holding.ensures in
    (c.in_ok-holding.holding.reel, e.reel, e.short, e.fits)

pub returns-in-Err-Memory-clause-fault : goal.returns-in-Err-Memory-clause-fault
returns-in-Err-Memory-clause-fault c = carried (goal.at.returns-in-Err-Memory-clause-fault c).In_ok-holding

pub returns-in_err-report-clause-fault : goal.returns-in_err-report-clause-fault
returns-in_err-report-clause-fault c =
    let p = err_from_is_err_and c.from_residual-in_err-report.result c.from_residual-in_err-report.ensures.1 in
    rw (p.1, p.2) (carried (goal.at.returns-in_err-report-clause-fault c).In_ok-holding)

pub returns-in_err-shown-clause-fault : goal.returns-in_err-shown-clause-fault
returns-in_err-shown-clause-fault c =
    let p = err_from_is_err_and c.from_residual-in_err-shown.result c.from_residual-in_err-shown.ensures.1 in
    rw (p.1, p.2) (carried (goal.at.returns-in_err-shown-clause-fault c).In_ok-holding)

pub returns : goal.returns
returns c =
    let recordings = c.args.recordings in
    let config = c.args.config.now in
    let width = c.args.width in
    let height = c.args.height in
    let plan = c.args.plan.now in
    let h = c.in_ok-holding.holding in
    let e = c.in_ok-holding.ensures in
    let reel = e.well_formed.reel in
    let held : IsHoldingFor recordings config width height plan h = record { reel = e.reel; meaning = e.meaning } in
    let payload : IsRestored h c.restore-payload.result = search steps in
    record {
      holding = held;
      payload = payload;
      report = c.in_ok-report.ensures;
      shown = c.in_ok-shown.ensures.shown;
      whole = c.in_ok-shown.ensures.whole;
      same_copies = λ other k also same. equal_in_all recordings config width height plan other h k held also same;
      original = λ original slices for.
          exact_restores h original slices reel for.is_original (held_exactly plan h e.meaning original slices for) c.restore-payload.result payload;
      near = λ original slices near. (let for = near_plan h.reel.rules plan original slices near in
          exact_restores h original slices reel for.is_original (held_exactly plan h e.meaning original slices for) c.restore-payload.result payload);
      short = e.short;
      fits = e.fits;
      fault = tt;
    }
