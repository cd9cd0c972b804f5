use Rattle.std.proofs.Common.{◌≡◌, Ok, refl, map, subst}
use Rattle.ffv1_range.specs.Decoder.{Reader}
use Rattle.ffv1_plane.specs.RangeSlices.{slice_shape}
use Rattle.ffv1_plane.specs.RangeReading.{IsSliceFaultOf}
use Rattle.std.specs.Option.{option_copied}
use Rattle.ffv1_samples.specs.States.{states_before}
use Rattle.ffv1_samples.specs.Coded.{range_end}
use Rattle.ffv1_samples.specs.Inner.Coded.{lines_groups}
use Rattle.ffv1_samples.proofs.Groups.{reader_states, range_stuck, range_coded, after_is, after_fits, after_within}
use Rattle.ffv1_samples.proofs.PlaneSizes.{equal_rows}
use Rattle.ffv1_samples.proofs.reading.range_planes.Goals as goal

pub read_range_planes-requires-clause-states : goal.read_range_planes-requires-clause-states
read_range_planes-requires-clause-states c =
    reader_states c.args.recording.now c.sets_of-sets.result c.args.header.now.tables c.args.sizes.now (states_before (option_copied c.args.before)) c.in-Ok.reader
    c.keeps_version_3.ensures c.sets_of-sets.ensures c.requires.sizes.count c.requires.before c.in-Ok.ensures.begins

pub returns-in-Ok-read_range_planes-clause-ok : goal.returns-in-Ok-read_range_planes-clause-ok
returns-in-Ok-read_range_planes-clause-ok c =
    let r = c.args.recording.now in
    let before = states_before (option_copied c.args.before) in
    let planes = map (λ plane. plane.items) c.in-Ok-read_range_planes.planes.items in
    let read = c.in-Ok-read_range_planes.ensures.read in
    record {
      end = range_end read.end (lines_groups c.in-Ok-read_range_planes.after);
      are_coded =
          range_coded r c.sets_of-sets.result c.args.header.now.tables c.args.sizes.now c.args.decoder (states_before (option_copied c.args.before)) c.in-Ok.reader c.sets_of-sets.ensures
          c.in-Ok.ensures.decoder c.in-Ok.ensures.begins c.in-Ok-read_range_planes.after planes read;
      reader = (
        after_is r c.sets_of-sets.result c.args.header.now.tables c.args.sizes.now c.args.decoder before c.in-Ok.reader c.sets_of-sets.ensures
            c.in-Ok.ensures.decoder c.in-Ok.ensures.begins c.in-Ok-read_range_planes.after planes read,
        refl,
      );
      fit = (
        c.requires.start.0,
        after_fits r c.sets_of-sets.result c.args.header.now.tables c.args.sizes.now c.args.decoder before c.in-Ok.reader c.sets_of-sets.ensures
            c.in-Ok.ensures.decoder c.in-Ok.ensures.begins c.in-Ok-read_range_planes.after planes read c.requires.sizes.count,
      );
      within =
          after_within r c.sets_of-sets.result c.args.header.now.tables c.args.sizes.now c.args.decoder before c.in-Ok.reader c.sets_of-sets.ensures
          c.in-Ok.ensures.decoder c.in-Ok.ensures.begins c.in-Ok-read_range_planes.after planes read c.args.content.now c.requires.start c.requires.content;
    }

pub returns-in-Err-Sample-clause-err : goal.returns-in-Err-Sample-clause-err
returns-in-Err-Sample-clause-err c =
    let r = c.args.recording.now in
    let before = states_before (option_copied c.args.before) in
    let given =
    subst (IsSliceFaultOf (slice_shape c.args.recording.now c.sets_of-sets.result c.args.sizes.now) c.in-Ok.reader) c.in-Err-Sample.field-0-is
    c.in-Err-Sample.ensures.err in
    record {
      start = given.0;
      from = subst (λ (d : Reader). d.at ≡ Ok given.0) c.in-Ok.ensures.decoder given.1;
      difference = c.in-Err-Sample.fault;
      is = c.from.ensures;
      stuck =
          range_stuck r c.sets_of-sets.result c.args.header.now.tables c.args.sizes.now c.args.decoder before c.in-Ok.reader c.sets_of-sets.ensures
          c.in-Ok.ensures.decoder c.in-Ok.ensures.begins given.0 c.in-Err-Sample.fault c.in-Err-Sample.plane c.in-Err-Sample.y c.in-Err-Sample.x given.1 given.2;
    }

pub read_range_planes-requires-clause-same : goal.read_range_planes-requires-clause-same
read_range_planes-requires-clause-same c = λ is p less. equal_rows c.args.recording.now c.args.sizes.now c.requires.sizes is p less
