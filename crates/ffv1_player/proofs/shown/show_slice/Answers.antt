use Rattle.std.proofs.Common.{◌≡◌, ◌⊎◌, ◌≤◌, List, ℕ, length, None, Some, sym, subst, refl, ⊎_elim, rules}
use Rattle.std.specs.Prelude.{◌==◌}
use Rattle.ffv1_bits.specs.Limits.{payload_limit}
use Rattle.ffv1_slice.specs.Slices.{content_of}
use Rattle.ffv1_samples.specs.Slices.{slice_picture_value, IsSlicePicture}
use Rattle.ffv1_samples.specs.Faults.{IsSliceFault}
use Rattle.ffv1_samples.specs.declared.faults.SliceFault.TheVariants.{Memory}
use Rattle.ffv1_player.proofs.Sizes.{slice_planes, in_grid}
use Rattle.ffv1_player.proofs.Showing.{short_content}
use Rattle.ffv1_player.proofs.shown.show_slice.Goals as goal

pub decode_slice-requires-clause-content : goal.decode_slice-requires-clause-content
decode_slice-requires-clause-content c =
    subst (λ (content : List ℕ). length content ≤ payload_limit) (sym c.content_of.ensures) (short_content c.args.slice.now c.requires.short)

pub add_picture-requires-clause-header : goal.add_picture-requires-clause-header
add_picture-requires-clause-header c =
    in_grid c.args.recording.now c.keeps_version_3.ensures c.content_of.result.now (c.args.tile == 0) None (slice_picture_value c.in-Ok.picture) c.in-Ok.ensures.ok

pub add_picture-requires-clause-picture : goal.add_picture-requires-clause-picture
add_picture-requires-clause-picture c =
    slice_planes c.args.recording.now c.keeps_version_3.ensures c.content_of.result.now (c.args.tile == 0) None (slice_picture_value c.in-Ok.picture) c.in-Ok.ensures.ok

pub returns-in_ok-end-in-Ok : goal.returns-in_ok-end-in-Ok
returns-in_ok-end-in-Ok c =
    record {
      picture = Some (slice_picture_value c.in-Ok.picture);
      shown = (
        subst (λ content. IsSlicePicture c.args.recording.now content (c.args.tile == 0) None (slice_picture_value c.in-Ok.picture)) c.content_of.ensures c.in-Ok.ensures.ok,
        c.in_ok-end-in-Ok.ensures.end,
      );
      drawn = c.in_ok-end-in-Ok.ensures.drawn;
    }

pub returns-in-Err : goal.returns-in-Err
returns-in-Err c =
    let r = c.args.recording.now in
    let cause = c.in-Err.cause in
    let not_memory : cause ≡ Memory → ⊥ = search rules in
    let why : IsSliceFault r (content_of c.args.slice.now) (c.args.tile == 0) None cause =
    ⊎_elim (λ memory. absurd (not_memory memory)) (λ why. why)
    (subst (λ content. (cause ≡ Memory) ⊎ IsSliceFault r content (c.args.tile == 0) None cause) c.content_of.ensures c.in-Err.ensures.err) in
    record { picture = None; shown = why; drawn = refl }
