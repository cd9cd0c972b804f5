use Rattle.std.proofs.Common.{◌*◌, min, ap, sym, ◌∙◌}
use Rattle.ffv1_splice.specs.declared.place.Place.{Place}
use Rattle.ffv1_splice.specs.declared.place.Standing.TheVariants.{Settled}
use Rattle.ffv1_mend.specs.Mended.{count_at}
use Rattle.ffv1_mend.proofs.FrameSteps.{counted, counted_other}
use Rattle.ffv1_mend.proofs.frame.count_of.Goals as goal
use Rattle.ffv1_mend.proofs.frame.count_of.Goals.{in-Woven, in_default}

pub loop-place-preserved : goal.loop-place-preserved
loop-place-preserved c =
    let none : Place = record { start = 0; end = 0; standing = Settled } in
    elim c.match-place.branch [
      | in-Woven w ↦ counted c.args.places.now c.loop-place.place-index none c.loop-place-test.true c.loop-place.count c.match-place.count 18446744073709551615
          c.loop-place.invariant
          (w.count-is ∙ w.saturating_mul-count.ensures ∙ ap (λ s. min (c.loop-place.count * count_at s) 18446744073709551615) (sym w.in-Woven.is))
      | in_default w ↦ counted_other c.args.places.now c.loop-place.place-index none c.loop-place-test.true c.loop-place.count c.match-place.count
          18446744073709551615 c.loop-place.invariant w.in_default.not-Woven w.count-is
    ]
