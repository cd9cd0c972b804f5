use Rattle.ffv1_hold.proofs.Common.{◌≡◌, sym, subst, IsSetupOf, Contents, IsHolding, holding_of, copies_of, AreNear, HoldsExactly, RereadsFit, IsRecordReel, Profile}
use Rattle.ffv1_hold.proofs.PlanSteps.{reel_config, reel_setup, reel_profile, reel_of_record}
use Rattle.ffv1_hold.proofs.plan.run.Goals as goal

-- what is held is what was carried out
pub returns-in-Ok : goal.returns-in-Ok
returns-in-Ok c =
    let config = c.args.config.now in
    let w = c.args.width in
    let h = c.args.height in
    let plan = c.args.plan.now in
    let copies = copies_of plan in
    let e = c.in_ok-holding.ensures in
    let reel = c.in_ok-holding.holding.reel in
    let same = sym c.in-Ok.ensures.ok.0 in
    record {
      config = subst (λ (k : Contents). k.reel.config ≡ config) same (reel_config config w h reel e.reel);
      setup = subst (λ (k : Contents). IsSetupOf config w h k.reel.setup) same (reel_setup config w h reel e.reel);
      meaning = subst (λ (k : Contents). k ≡ holding_of k.reel copies) same e.meaning;
      well_formed = subst IsHolding same e.well_formed;
      of_record = subst (λ (k : Contents). IsRecordReel k.reel) same (reel_of_record Profile config w h reel e.reel);
      near = λ original slices. subst (λ (k : Contents). AreNear k.reel.rules original slices copies → HoldsExactly k slices) same (e.near original slices);
      short = e.short;
      fits = subst (λ (k : Contents). RereadsFit k.reel plan) same e.fits;
      fault = tt;
    }

-- no other record is read
pub returns-clause-fault : goal.returns-clause-fault
returns-clause-fault c =
    let yes = reel_profile c.args.config.now c.args.width c.args.height c.in_ok-holding.holding.reel c.in_ok-holding.ensures.reel in
    let no = c.in-Err.ensures.err.1 in
    absurd cc
