use Rattle.ffv1_hold.proofs.Common.{rules}
use Rattle.ffv1_hold.proofs.FirstSlices.{wide_is, of_wide}
use Rattle.ffv1_hold.proofs.firsts.is_of_any_frames.Goals as goal

pub returns-then-not-is_of_profile : goal.returns-then-not-is_of_profile
returns-then-not-is_of_profile g c =
    let r = c.args.reel.now in (
      wide_is r c.recording.result.now c.recording.ensures.own _ c.is_in_profile.ensures (search rules),
      of_wide r c.recording.result.now c.recording.ensures.own _ c.is_in_profile.ensures,
    )
