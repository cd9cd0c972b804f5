use Rattle.std.proofs.Common.{◌++◌, List, ℕ, string_bytes, map, take, ap, ◌∙◌, append_assoc}
use Rattle.std.specs.List.{flat_map}
use Rattle.ffv1_mend.specs.Improved.{part_value}
use Rattle.ffv1_stretches.specs.Inner.CellSteps.{cell_now}
use Rattle.ffv1_stretches.specs.Lines.{frame_lines}
use Rattle.ffv1_stretches.proofs.LineLemmas.{frames_more}
use Rattle.ffv1_stretches.proofs.lines.push_frames.Goals as goal

pub loop-mend-preserved : goal.loop-mend-preserved
loop-mend-preserved c =
    let i : ℕ = c.loop-mend.mend-index in
    let here : List ℕ = frame_lines (map cell_now c.args.cells.now) c.args.bytes.now (part_value c.mend-item.result) in
    let so_far : List ℕ = flat_map (frame_lines (map cell_now c.args.cells.now) c.args.bytes.now) (take i (map part_value c.args.mends.now)) in
    c.in_ok-push_frame.ensures ∙ ap (λ (text : List ℕ). text ++ here) c.loop-mend.invariant ∙ append_assoc (string_bytes c.args.text.now) so_far here
    ∙ ap (λ (lines : List ℕ). string_bytes c.args.text.now ++ lines)
    (frames_more (map cell_now c.args.cells.now) c.args.bytes.now c.args.mends.now i c.mend-item.result c.loop-mend-test.true c.mend-item.is)
