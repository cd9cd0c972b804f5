use Rattle.std.proofs.Common.{◌≡◌, ◌<◌, ◌+◌, ◌++◌, ℕ, List, Option, string_bytes, map, length, get_or, take, sym, ap, ◌∙◌, append_assoc, arith}
use Rattle.std.specs.List.{zip}
use Rattle.std.proofs.lemmas.List.{length-map}
use Rattle.ffv1_mend.specs.declared.part.Part.{Part}
use Rattle.ffv1_mend.specs.Improved.{PartValue, part_value}
use Rattle.ffv1_mend.proofs.PartSteps.{no_part}
use Rattle.ffv1_stretches.specs.Inner.CellSteps.{cell_now}
use Rattle.ffv1_stretches.specs.Lines.{cells_between, part_lines, parts_lines}
use Rattle.ffv1_stretches.proofs.LineLemmas.{mend_at, parts_more, pairs_taken, lines_of_part}
use Rattle.ffv1_stretches.proofs.lines.push_parts.Goals as goal

pub loop-index-preserved : goal.loop-index-preserved
loop-index-preserved c =
    let i = c.loop-index.index in
    let cells : List (Option (List ℕ)) = map cell_now c.args.cells.now in
    let part : Part = get_or c.args.parts.now c.loop-index.index no_part in
    let mend : PartValue = part_value c.index-mends-index.result in
    let lt : i < length c.args.parts.now = omega (arith, c.min-index-end.ensures, c.loop-index-test.true) in
    let within : i < length (map part_value c.args.mends.now) =
    omega (arith, c.min-index-end.ensures, c.loop-index-test.true, length-map c.args.mends.now part_value) in
    let so_far : List ℕ = parts_lines 1 cells c.args.bytes.now (take c.loop-index.index (zip c.args.parts.now (map part_value c.args.mends.now))) in
    let here : List ℕ = lines_of_part (c.loop-index.index + 1) cells c.args.bytes.now part mend in
    let own : string_bytes c.push_part.new.text ≡ string_bytes c.loop-index.text ++ here =
    c.in_ok-push_part.ensures
    ∙ ap (λ (narrow : List (Option (List ℕ))). string_bytes c.loop-index.text ++ part_lines (c.loop-index.index + 1) narrow c.between-here.result.now mend)
    (ap (map cell_now) c.as_slice.ensures.value ∙ c.in_ok-narrow.ensures)
    ∙ ap (λ (bytes : List ℕ). string_bytes c.loop-index.text ++ part_lines (c.loop-index.index + 1) (cells_between cells part.start part.end) bytes mend)
    c.between-here.ensures in
    own ∙ ap (λ (text : List ℕ). text ++ here) c.loop-index.invariant ∙ append_assoc (string_bytes c.args.text.now) so_far here
    ∙ ap (λ (lines : List ℕ). string_bytes c.args.text.now ++ lines)
    (ap (λ (s : PartValue). so_far ++ lines_of_part (c.loop-index.index + 1) cells c.args.bytes.now part s) (mend_at c.args.mends.now i c.index-mends-index.result c.index-mends-index.is)
    ∙ sym (parts_more cells c.args.bytes.now c.args.parts.now (map part_value c.args.mends.now) i no_part mend lt within))

pub returns : goal.returns
returns c =
    c.loop-index.invariant ∙ ap (λ (pairs : List (Part × PartValue)). string_bytes c.args.text.now ++ parts_lines 1 (map cell_now c.args.cells.now) c.args.bytes.now pairs)
    (pairs_taken c.args.parts.now (map part_value c.args.mends.now) c.loop-index.index (omega (arith, c.min-index-end.ensures, c.loop-index-test.false, length-map c.args.mends.now part_value)))
