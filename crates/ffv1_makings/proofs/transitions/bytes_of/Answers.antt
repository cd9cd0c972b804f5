use Rattle.std.proofs.Common.{sym, ◌∙◌, arith, pos}
use Rattle.std.specs.Prelude.{slice_index_or}
use Rattle.std.specs.List.{range_with_len}
use Rattle.std.proofs.lemmas.List.FromFn.{fill_by_all}
use Rattle.std.proofs.lemmas.Simd.{map-map}
use Rattle.ffv1_range.specs.Transitions.{delta_byte}
use Rattle.ffv1_makings.proofs.transitions.bytes_of.Goals as goal

pub returns : goal.returns
returns c =
    fill_by_all (λ k. delta_byte (slice_index_or c.args.deltas.now k (pos 0))) c.loop-place.bytes 255 0 c.loop-place.invariant.size
    (λ k h. c.loop-place.invariant.filled k (omega arith))
    ∙ sym (map-map delta_byte (λ k. slice_index_or c.args.deltas.now k (pos 0)) (range_with_len 0 255))
