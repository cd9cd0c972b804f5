use Rattle.ffv1_hold.proofs.Common.{◌≤◌, rules, inl, refl, sym, arith, subst, length, record_limit, Reel, IsReelAfter, WantsMemory}
use Rattle.ffv1_hold.proofs.Heads.{any_reel_after}
use Rattle.ffv1_hold.proofs.head.judge_reel.Goals as goal

pub returns-in-Err-Memory-clause-fault : goal.returns-in-Err-Memory-clause-fault
returns-in-Err-Memory-clause-fault c =
    let wants = c.of_record.ensures.memory (search rules) in
    inl (
      c.args.config.items,
      c.args.width,
      c.args.height,
      refl,
      c.requires,
      omega arith,
      omega arith,
      subst (λ r. WantsMemory r c.args.config.items c.args.width c.args.height) c.recordings_of-recordings.ensures wants,
    )

pub returns-in-Ok-2-clause-reel : goal.returns-in-Ok-2-clause-reel
returns-in-Ok-2-clause-reel c =
    let r = c.in-Ok.reel in
    let found = c.in-Ok.ensures.found in
    subst (IsReelAfter c.args.of_profile) (sym c.into_any_frames.ensures)
    (any_reel_after c.args.of_profile r c.in-Ok.ensures.well_formed
    (subst (λ (x : Reel). length x.config ≤ record_limit) (sym found.2) c.requires) c.if-of_profile.false)
