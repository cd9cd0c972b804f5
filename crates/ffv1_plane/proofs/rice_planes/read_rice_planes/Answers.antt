use Rattle.std.proofs.Common.{sym, subst, arith, length}
use Rattle.std.proofs.lemmas.Result.{err_from_is_err_and}
use Rattle.ffv1_plane.specs.RangeSlices.{slice_shape, lines_of}
use Rattle.ffv1_plane.specs.RiceReading.{group_codes, AreCodesDecoded}
use Rattle.ffv1_plane.specs.Inner.Planes.{coding_of_planes}
use Rattle.ffv1_plane.specs.Inner.RiceLines.{codes_place, IsCutFor, AreCodesRead}
use Rattle.ffv1_plane.specs.declared.rice_planes.OpenLines.{OpenLines}
use Rattle.ffv1_plane.proofs.RangeSlices.{have_counts, are_fresh, new_count}
use Rattle.ffv1_plane.proofs.RicePlanes.{all_read, all_cut}
use Rattle.ffv1_plane.proofs.RiceSlices.{slice_is_decoded, codes_fault_of}
use Rattle.ffv1_plane.proofs.OneRice.{found_is_decoded, found_not_stuck}
use Rattle.ffv1_plane.proofs.rice_planes.read_rice_planes.Goals as goal

pub read_lines-requires-clause-fresh : goal.read_lines-requires-clause-fresh
read_lines-requires-clause-fresh c = are_fresh c.args.recording.now c.args.sets.now c.args.sizes.now c.in-Ok.planes c.in-Ok.ensures

pub returns-in_err-codes-clause-err : goal.returns-in_err-codes-clause-err
returns-in_err-codes-clause-err c =
    let p = err_from_is_err_and c.from_residual.result c.from_residual.ensures.1 in
    let begun : OpenLines = record {
      codes = record { bits = c.args.reader.bits; index = c.start-index.result; spare = c.in-Ok-new.spare };
      luma = c.args.reader.luma;
      chroma = c.args.reader.chroma;
      alpha = c.args.reader.alpha;
      is_rgb = c.is_rgb-is_rgb.result;
    } in
    rw (p.1, p.2)
    (codes_fault_of c.args.recording.now c.args.sets.now c.args.sizes.now c.in-Ok.planes begun _ c.in-Ok.ensures c.start-index.ensures
    (subst (λ b. IsCutFor b (coding_of_planes c.in-Ok.planes) (lines_of b c.args.sizes.now) c.in-Ok.planes.lines.items (codes_place begun) c.in_err-codes.field-0.0)
    c.is_rgb-is_rgb.ensures (all_cut c.in-Ok.planes begun _ _ (have_counts c.args.recording.now c.args.sets.now c.args.sizes.now c.in-Ok.planes (λ g. length (group_codes c.args.reader g)) c.in-Ok.ensures c.requires.states) c.in_err-codes.ensures.err)))

pub returns-in_err-codes-clause-found : goal.returns-in_err-codes-clause-found
returns-in_err-codes-clause-found c = λ planes spelled.
    let p = err_from_is_err_and c.from_residual.result c.from_residual.ensures.1 in
    let begun : OpenLines = record {
      codes = record { bits = c.args.reader.bits; index = c.start-index.result; spare = c.in-Ok-new.spare };
      luma = c.args.reader.luma;
      chroma = c.args.reader.chroma;
      alpha = c.args.reader.alpha;
      is_rgb = c.is_rgb-is_rgb.result;
    } in
    rw (p.1, p.2)
    (found_not_stuck c.args.recording.now c.args.sets.now c.args.sizes.now c.args.reader planes _ c.keeps_version_3.ensures c.requires.sizes
    (codes_fault_of c.args.recording.now c.args.sets.now c.args.sizes.now c.in-Ok.planes begun _ c.in-Ok.ensures c.start-index.ensures
    (subst (λ b. IsCutFor b (coding_of_planes c.in-Ok.planes) (lines_of b c.args.sizes.now) c.in-Ok.planes.lines.items (codes_place begun) c.in_err-codes.field-0.0)
    c.is_rgb-is_rgb.ensures (all_cut c.in-Ok.planes begun _ _ (have_counts c.args.recording.now c.args.sets.now c.args.sizes.now c.in-Ok.planes (λ g. length (group_codes c.args.reader g)) c.in-Ok.ensures c.requires.states) c.in_err-codes.ensures.err))) spelled)

pub into_samples-requires : goal.into_samples-requires
into_samples-requires c = λ p less.
    let count = new_count c.args.recording.now c.args.sets.now c.args.sizes.now c.in-Ok.planes c.in-Ok.ensures in
    (c.in_ok-codes.ensures.grown.grown p).ended
    (are_fresh c.args.recording.now c.args.sets.now c.args.sizes.now c.in-Ok.planes c.in-Ok.ensures p (omega (arith, less, c.in_ok-codes.ensures.grown.count, count))).ended

pub returns-clause-read : goal.returns-clause-read
returns-clause-read c =
    let begun : OpenLines = record {
      codes = record { bits = c.args.reader.bits; index = c.start-index.result; spare = c.in-Ok-new.spare };
      luma = c.args.reader.luma;
      chroma = c.args.reader.chroma;
      alpha = c.args.reader.alpha;
      is_rgb = c.is_rgb-is_rgb.result;
    } in
    let after : OpenLines = c.in_ok-codes.field-0 in
    subst (AreCodesDecoded (slice_shape c.args.recording.now c.args.sets.now c.args.sizes.now) c.args.reader
    (record { bits = after.codes.bits; luma = after.luma; chroma = after.chroma; alpha = after.alpha })) (sym c.in-Ok-into_samples.ensures)
    (slice_is_decoded c.args.recording.now c.args.sets.now c.args.sizes.now c.in-Ok.planes c.read_lines.new.planes begun after c.in-Ok.ensures c.start-index.ensures
    c.requires.states (λ p less is. c.requires.same is p less)
    (subst (λ b. AreCodesRead b (coding_of_planes c.in-Ok.planes) (lines_of b c.args.sizes.now) c.in-Ok.planes.lines.items (codes_place begun) c.read_lines.new.planes.lines.items
    (codes_place after)) c.is_rgb-is_rgb.ensures (all_read c.in-Ok.planes c.read_lines.new.planes begun after _ (have_counts c.args.recording.now c.args.sets.now c.args.sizes.now c.in-Ok.planes (λ g. length (group_codes c.args.reader g)) c.in-Ok.ensures c.requires.states) c.in_ok-codes.ensures.read).read))

pub returns-clause-found : goal.returns-clause-found
returns-clause-found c = λ planes spelled.
    let after : OpenLines = c.in_ok-codes.field-0 in
    found_is_decoded c.args.recording.now c.args.sets.now c.args.sizes.now c.args.reader
    (record { bits = after.codes.bits; luma = after.luma; chroma = after.chroma; alpha = after.alpha }) planes _ c.keeps_version_3.ensures c.requires.sizes
    (λ is p less. c.requires.same is p less) (returns-clause-read c) spelled
