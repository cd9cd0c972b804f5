use Rattle.std.proofs.Common.{◌≡◌, ◌⊎◌, ◌≤◌, [], ◌∷◌, ◌++◌, length, None, sym, subst, arith}
use Rattle.std.specs.Prelude.{◌==◌}
use Rattle.std.specs.Option.{option_copied}
use Rattle.ffv1_bits.specs.Limits.{payload_limit}
use Rattle.ffv1_layout.specs.Layout.{headers_of, contents_of, listed_slice, no_header}
use Rattle.ffv1_layout.specs.declared.layout.PlacedSlice.{PlacedSlice}
use Rattle.ffv1_samples.specs.States.{states_before}
use Rattle.ffv1_samples.specs.Slices.{slice_picture_value, IsSlicePicture, FitContent}
use Rattle.ffv1_samples.specs.Faults.{IsSliceFault}
use Rattle.ffv1_samples.specs.declared.faults.SliceFault.TheVariants as slice_faults
use Rattle.ffv1_player.specs.Frames.{states_left_at}
use Rattle.ffv1_player.specs.Players.{left_values}
use Rattle.ffv1_player.specs.Inner.Decoding.{IsContentFault}
use Rattle.ffv1_player.specs.declared.fault.SamplesFault.TheVariants.{Memory}
use Rattle.ffv1_player.proofs.Sizes.{slice_planes, are_frame_planes}
use Rattle.ffv1_player.proofs.Decoding.{fit_content, refused_slice, more_pictures, content_of, inside_contents, of_slice, to_slice}
use Rattle.ffv1_player.proofs.drawn.decode_slices.Goals as goal

-- what stands past the end of a list of slices
abbrev no_placed : PlacedSlice
no_placed = record { content = record { ref_ptr = (0, 0); now = [] }; header = no_header; status = None }

pub decode_slice-requires-clause-content : goal.decode_slice-requires-clause-content
decode_slice-requires-clause-content c =
    let n = c.loop-place.place in
    let short : length (listed_slice (contents_of c.args.placed.now) n) ≤ payload_limit = omega (arith, c.requires.short n) in
    subst (λ content. length content ≤ payload_limit) (content_of c.args.placed.now n no_placed c.loop-place-test.true) short

pub decode_slice-requires-clause-states : goal.decode_slice-requires-clause-states
decode_slice-requires-clause-states c =
    let r = c.args.recording.now in
    let placed = c.args.placed.now in
    let before = left_values c.args.before.now in
    let n = c.loop-place.place in
    to_slice placed n no_placed c.loop-place-test.true (λ content states. FitContent r content (n == 0) states) (states_before (option_copied c.states_left_at-states.result))
    (states_left_at before n) c.states_left_at-states.ensures
    (fit_content r (contents_of placed) (headers_of placed) before c.requires n (inside_contents placed n no_placed c.loop-place-test.true))

pub add-requires-clause-planes : goal.add-requires-clause-planes
add-requires-clause-planes c =
    are_frame_planes c.args.recording.now c.loop-place.invariant.pictures _ c.loop-place.invariant.drawn.planes

pub add-requires-clause-picture : goal.add-requires-clause-picture
add-requires-clause-picture c =
    slice_planes c.args.recording.now c.keeps_version_3.ensures _ (c.loop-place.place == 0) (states_before (option_copied c.states_left_at-states.result))
    (slice_picture_value c.in-Ok.picture) c.in-Ok.ensures.ok

pub returns-in-Err-clause-err : goal.returns-in-Err-clause-err
returns-in-Err-clause-err c =
    let r = c.args.recording.now in
    let placed = c.args.placed.now in
    let before = left_values c.args.before.now in
    let n = c.loop-place.place in
    let fault = c.in-Err.fault in
    let drawn = c.loop-place.invariant in
    subst (λ f. (f ≡ Memory) ⊎ IsContentFault r (contents_of placed) before f) (sym c.content_fault.ensures)
    (refused_slice r (contents_of placed) (headers_of placed) before c.requires n (inside_contents placed n no_placed c.loop-place-test.true) drawn.pictures fault drawn.have
    (of_slice placed n no_placed c.loop-place-test.true (λ content states. (fault ≡ slice_faults.Memory) ⊎ IsSliceFault r content (n == 0) states fault)
    (states_before (option_copied c.states_left_at-states.result)) (states_left_at before n) c.states_left_at-states.ensures c.in-Err.ensures.err))

pub loop-place-preserved : goal.loop-place-preserved
loop-place-preserved c =
    let r = c.args.recording.now in
    let placed = c.args.placed.now in
    let before = left_values c.args.before.now in
    let n = c.loop-place.place in
    let picture = slice_picture_value c.in-Ok.picture in
    let drawn = c.loop-place.invariant in
    record {
      pictures = drawn.pictures ++ picture ∷ [];
      have =
          more_pictures r (contents_of placed) before drawn.pictures n picture drawn.have
          (of_slice placed n no_placed c.loop-place-test.true (λ content states. IsSlicePicture r content (n == 0) states picture)
          (states_before (option_copied c.states_left_at-states.result)) (states_left_at before n) c.states_left_at-states.ensures c.in-Ok.ensures.ok);
      drawn = c.in_ok-add-in-Ok.ensures drawn.pictures drawn.drawn;
    }
