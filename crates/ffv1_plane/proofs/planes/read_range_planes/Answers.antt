use Rattle.std.proofs.Common.{sym, subst, arith, length}
use Rattle.std.proofs.lemmas.Result.{err_from_is_err_and}
use Rattle.ffv1_plane.specs.RangeSlices.{slice_shape, lines_of}
use Rattle.ffv1_plane.specs.Inner.Planes.{coding_of_planes, lines_reader, HaveRead, IsLinesFaultOf}
use Rattle.ffv1_plane.specs.RangeReading.{group_states, IsSliceRead}
use Rattle.ffv1_plane.proofs.PlaneRows.{all_read, all_cut}
use Rattle.ffv1_plane.proofs.RangeSlices.{have_counts, are_fresh, new_count, slice_is_read, slice_fault_of}
use Rattle.ffv1_plane.proofs.OneRange.{found_is_read, found_not_refused}
use Rattle.ffv1_plane.proofs.planes.read_range_planes.Goals as goal

pub read_lines-requires-clause-can : goal.read_lines-requires-clause-can
read_lines-requires-clause-can c =
    (c.requires.alive, have_counts c.args.recording.now c.args.sets.now c.args.sizes.now c.in-Ok.planes (λ g. length (group_states c.args.reader g)) c.in-Ok.ensures c.requires.states)

pub read_lines-requires-clause-fresh : goal.read_lines-requires-clause-fresh
read_lines-requires-clause-fresh c = are_fresh c.args.recording.now c.args.sets.now c.args.sizes.now c.in-Ok.planes c.in-Ok.ensures

pub returns-in_err-reader-clause-err : goal.returns-in_err-reader-clause-err
returns-in_err-reader-clause-err c =
    let p = err_from_is_err_and c.from_residual.result c.from_residual.ensures.1 in
    rw (p.1, p.2)
    (slice_fault_of c.args.recording.now c.args.sets.now c.args.sizes.now c.in-Ok.planes c.args.reader _ c.in-Ok.ensures
    (subst (λ b. IsLinesFaultOf (coding_of_planes c.in-Ok.planes) (lines_of b c.args.sizes.now) c.in-Ok.planes.lines.items (lines_reader c.args.reader) c.in_err-reader.field-0.0)
    c.is_rgb.ensures
    (all_cut c.in-Ok.planes c.args.reader _ _ c.requires.alive
    (have_counts c.args.recording.now c.args.sets.now c.args.sizes.now c.in-Ok.planes (λ g. length (group_states c.args.reader g)) c.in-Ok.ensures c.requires.states) c.in_err-reader.ensures.err)))

pub into_samples-requires : goal.into_samples-requires
into_samples-requires c = λ p less.
    let count = new_count c.args.recording.now c.args.sets.now c.args.sizes.now c.in-Ok.planes c.in-Ok.ensures in
    (c.in_ok-reader.ensures.grown.grown p).ended
    (are_fresh c.args.recording.now c.args.sets.now c.args.sizes.now c.in-Ok.planes c.in-Ok.ensures p (omega (arith, less, c.in_ok-reader.ensures.grown.count, count))).ended

pub returns-clause-read : goal.returns-clause-read
returns-clause-read c =
    subst (IsSliceRead (slice_shape c.args.recording.now c.args.sets.now c.args.sizes.now) c.args.reader c.in_ok-reader.reader) (sym c.in-Ok-into_samples.ensures)
    (slice_is_read c.args.recording.now c.args.sets.now c.args.sizes.now c.in-Ok.planes c.read_lines.new.planes c.args.reader c.in_ok-reader.reader c.in-Ok.ensures
    c.requires.states (λ p less is. c.requires.same is p less)
    (subst (λ b. HaveRead c.in-Ok.planes c.args.reader (lines_of b c.args.sizes.now) c.read_lines.new.planes c.in_ok-reader.reader) c.is_rgb.ensures
    (all_read c.in-Ok.planes c.read_lines.new.planes c.args.reader c.in_ok-reader.reader _ c.requires.alive
    (have_counts c.args.recording.now c.args.sets.now c.args.sizes.now c.in-Ok.planes (λ g. length (group_states c.args.reader g)) c.in-Ok.ensures c.requires.states) c.in_ok-reader.ensures.read)))

pub returns-in_err-reader-clause-found : goal.returns-in_err-reader-clause-found
returns-in_err-reader-clause-found c = λ planes coded.
    let p = err_from_is_err_and c.from_residual.result c.from_residual.ensures.1 in
    rw (p.1, p.2)
    (found_not_refused c.args.recording.now c.args.sets.now c.args.sizes.now c.args.reader planes _ c.keeps_version_3.ensures c.requires.sizes
    (slice_fault_of c.args.recording.now c.args.sets.now c.args.sizes.now c.in-Ok.planes c.args.reader _ c.in-Ok.ensures
    (subst (λ b. IsLinesFaultOf (coding_of_planes c.in-Ok.planes) (lines_of b c.args.sizes.now) c.in-Ok.planes.lines.items (lines_reader c.args.reader) c.in_err-reader.field-0.0)
    c.is_rgb.ensures
    (all_cut c.in-Ok.planes c.args.reader _ _ c.requires.alive
    (have_counts c.args.recording.now c.args.sets.now c.args.sizes.now c.in-Ok.planes (λ g. length (group_states c.args.reader g)) c.in-Ok.ensures c.requires.states) c.in_err-reader.ensures.err))) coded)

pub returns-clause-found : goal.returns-clause-found
returns-clause-found c = λ planes coded.
    found_is_read c.args.recording.now c.args.sets.now c.args.sizes.now c.args.reader c.in_ok-reader.reader planes _ c.keeps_version_3.ensures c.requires.sizes
    (λ is p less. c.requires.same is p less) (returns-clause-read c) coded
