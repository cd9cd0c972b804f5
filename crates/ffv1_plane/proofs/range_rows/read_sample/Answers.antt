use Rattle.std.proofs.Common.{arith, rules, List, ℕ, nat_abs, ◌≡◌, w32, ap, sym, ◌∙◌, subst, refl, set, [], Ok, slice_index_or}
use Rattle.ffv1_range.specs.Forms.{ReadsForm}
use Rattle.ffv1_plane.specs.RangeRows.{fault_of_difference, difference_form}
use Rattle.std.proofs.lemmas.Int.{to_z-of_z}
use Rattle.ffv1_range.specs.Setup.{set_entry}
use Rattle.ffv1_plane.specs.Samples.{coding_at, difference_of}
use Rattle.ffv1_plane.specs.Inner.RangeRows.{IsRangeSampleRead}
use Rattle.ffv1_plane.proofs.RangeRows.{range_sample_read}
use Rattle.ffv1_plane.proofs.range_rows.read_sample.Goals as goal

pub returns-clause-read : goal.returns-clause-read
returns-clause-read c = λ group.
    let lines = c.args.lines.now in
    let coding = coding_at lines.depth (set_entry c.args.tables.now.setup c.args.tables.now.set) in
    let f = to_z-of_z w32 c.context-context.result (omega (arith, c.context-context.type_inv)) in
    let g = to_z-of_z w32 c.in_ok-difference.difference (search rules) in
    let i_is : c.unsigned_abs.result ≡ nat_abs c.context-context.result = c.unsigned_abs.ensures.value ∙ ap nat_abs f in
    let difference = ap (λ z. difference_of c.args.depth z c.prediction-prediction.result c.sample_of-sample.result) (sym f) ∙ c.sample_of-sample.ensures.value ∙ g in
    subst (λ (new : List ℕ). IsRangeSampleRead lines.width coding group c.args.is_signed lines.samples c.args.states.now c.args.decoder.now new
    (set c.args.states.now c.unsigned_abs.result c.read_difference.new.states) c.read_difference.new.decoder)
    (sym (ap (λ r. r.samples) c.push.ensures.value))
    (range_sample_read lines.width coding group c.args.is_signed lines.samples c.args.states.now c.args.decoder.now c.read_difference.new.decoder
    c.neighbours-near.result c.context-context.result c.in_ok-difference.difference c.prediction-prediction.result c.unsigned_abs.result c.sample_of-sample.result
    _ c.read_difference.new.states (omega (arith, c.requires.inside)) c.depth-depth.ensures.deep c.neighbours-near.ensures.value c.context-context.ensures.value
    c.prediction-prediction.ensures (subst (λ n. difference_of n c.context-context.result c.prediction-prediction.result c.sample_of-sample.result ≡ c.in_ok-difference.difference) c.requires.depth difference)
    i_is (omega (arith, i_is, c.context-context.ensures.bound, c.requires.states)) refl
    (subst (λ n. ReadsForm fault_of_difference (difference_form n) c.args.decoder.now (slice_index_or c.args.states.now c.unsigned_abs.result []) (Ok c.in_ok-difference.difference) c.read_difference.new.decoder
    c.read_difference.new.states) c.requires.depth c.in_ok-difference.ensures.read))
