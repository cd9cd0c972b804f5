use Rattle.std.proofs.Common.{◌++◌, ◌<◌, ◌≤◌, List, ℕ, length, get_or, ap, ◌∙◌, false, take_all, arith}
use Rattle.std.specs.String.{string_bytes}
use Rattle.ffv1_player.specs.declared.samples.SliceEnd.{SliceEnd}
use Rattle.ffv1_player.specs.FrameLines.{played_line, slice_line, unclean_lines}
use Rattle.ffv1_player.proofs.LineSteps.{unclean_lines-more}
use Rattle.ffv1_player.proofs.frame_lines.frame_text.Goals as goal

-- what an index past the end would read
abbrev no_end : SliceEnd
no_end = record { spare_bits = 0; is_clean = false }

pub loop-place-preserved : goal.loop-place-preserved
loop-place-preserved c =
    let ends = c.args.frame.now.slices.items in
    let place = c.loop-place.place in
    let lt : place < length ends = omega (arith, c.loop-place-test.true, ap length c.deref-end-items.ensures.value) in
    c.in_ok-push_slice.ensures
    ∙ ap (λ (es : List SliceEnd). string_bytes c.loop-place.text ++ slice_line place (get_or es place no_end)) c.deref-end-items.ensures.value
    ∙ ap (λ (text : List ℕ). text ++ slice_line place (get_or ends place no_end)) c.loop-place.invariant
    ∙ unclean_lines-more (played_line c.args.number c.args.frame.now) ends place no_end lt

pub returns : goal.returns
returns c =
    let ends = c.args.frame.now.slices.items in
    let done : length ends ≤ c.loop-place.place = omega (arith, c.loop-place-test.false, ap length c.deref-end-items.ensures.value) in
    c.loop-place.invariant ∙ ap (λ (es : List SliceEnd). played_line c.args.number c.args.frame.now ++ unclean_lines 0 es) (take_all c.loop-place.place ends done)
