use Rattle.ffv1_hold.proofs.Common.{◌≡◌, ◌==◌, arith, subst, rules, IsSliceOf, IsOfAnyFrames, reel_of}
use Rattle.ffv1_hold.proofs.FirstSlices.{refused_between, between_refused}
use Rattle.ffv1_hold.proofs.firsts.can_be_first.Goals as goal

pub returns-then-tile-eq0-clause-can : goal.returns-then-tile-eq0-clause-can
returns-then-tile-eq0-clause-can c =
    let r = c.args.reel.now in
    let own = reel_of r.config c.recording.result.now in
    let of = c.recording.ensures.own in
    let slice = c.args.slice.now in
    let first : c.args.tile ≡ 0 = omega arith in
    let is = subst (λ t. IsSliceOf r.rules slice (t == 0) t) first c.requires in
    let by = c.is_by_record.ensures.slice in (
      λ refused wide. (first, refused_between r own of wide slice c.is_by_record.result by.1 by.0 is (search (rules, refused))),
      λ can.
          let wide : IsOfAnyFrames r = c.is_of_any_frames.ensures.0 (search rules) in
          let b = between_refused r own of wide slice c.is_by_record.result by.1 by.0 (can wide).1 in search (rules, b),
    )
