use Rattle.std.proofs.Common.{◌++◌, ℕ, List, slice_index_or, sym, ap, ◌∙◌}
use Rattle.std.proofs.lemmas.List.{get_or_default}
use Rattle.std.specs.List.{flat_map, range_with_len}
use Rattle.ffv1_holding.proofs.Lists.{flat_map-range_more}
use Rattle.ffv1_picture.specs.declared.partial.TileOutcome.{TileOutcome}
use Rattle.ffv1_picture.specs.declared.partial.TileOutcome.TheVariants.{Decoded, Missing}
use Rattle.ffv1_commands.specs.PictureText.{outcome_line}
use Rattle.ffv1_commands.proofs.picture.outcomes_text.Goals as goal

pub loop-tile-preserved : goal.loop-tile-preserved
loop-tile-preserved c =
    let n = c.loop-tile.tile in
    let all = c.args.outcomes.now in
    let line : ℕ → List ℕ = λ tile. outcome_line tile (slice_index_or all tile Missing) in
    let same = get_or_default all n (Decoded 0) Missing c.loop-tile-test.true in
    c.in_ok-push_outcome.ensures
    ∙ ap (λ (text : List ℕ). text ++ outcome_line n (slice_index_or all n (Decoded 0))) c.loop-tile.invariant
    ∙ ap (λ (o : TileOutcome). flat_map line (range_with_len 0 n) ++ outcome_line n o) same
    ∙ sym (flat_map-range_more line n)
