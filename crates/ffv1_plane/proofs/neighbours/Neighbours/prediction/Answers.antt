use Rattle.std.proofs.Common.{arith, ap}
use Rattle.ffv1_plane.specs.Samples.{prediction_of}
use Rattle.ffv1_plane.proofs.Medians.{median_is}
use Rattle.ffv1_plane.proofs.neighbours.Neighbours.prediction.Goals as goal

pub overflow_cast-result : goal.overflow_cast-result
overflow_cast-result c =
    let m = median_is c.self.inside.left c.self.inside.top c.self.inside.top_left c.from-left.result c.from-top.result c.from.result c.min.result
    c.max-2.result c.max.result c.min-slope.result (omega arith) (omega arith) (omega arith) c.from-left.ensures c.from-top.ensures c.from.ensures
    c.min.ensures.value c.max.ensures.value c.max-2.ensures.value c.min-slope.ensures.value in
    rw m.0 (tt, record { fits = m.1 4294967296 (omega arith) (omega arith) })

pub returns-clause-value : goal.returns-clause-value
unfolding prediction_of
returns-clause-value c =
    let m = median_is c.self.inside.left c.self.inside.top c.self.inside.top_left c.from-left.result c.from-top.result c.from.result c.min.result
    c.max-2.result c.max.result c.min-slope.result (omega arith) (omega arith) (omega arith) c.from-left.ensures c.from-top.ensures c.from.ensures
    c.min.ensures.value c.max.ensures.value c.max-2.ensures.value c.min-slope.ensures.value in
    rw (m.0, ← c.self.view_is)

pub returns-clause-small : goal.returns-clause-small
returns-clause-small c =
    let m = median_is c.self.inside.left c.self.inside.top c.self.inside.top_left c.from-left.result c.from-top.result c.from.result c.min.result
    c.max-2.result c.max.result c.min-slope.result (omega arith) (omega arith) (omega arith) c.from-left.ensures c.from-top.ensures c.from.ensures
    c.min.ensures.value c.max.ensures.value c.max-2.ensures.value c.min-slope.ensures.value in
    let left = ap (λ n. n.left) c.self.view_is in
    let top = ap (λ n. n.top) c.self.view_is in
    λ bound low high. rw m.0 (m.1 bound (omega (arith, left, low)) (omega (arith, top, high)))
