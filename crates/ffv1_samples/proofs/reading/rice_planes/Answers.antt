use Rattle.std.proofs.Common.{refl, map, subst, ap, ◌∙◌, drop}
use Rattle.ffv1_bits.specs.Reader.{Reading}
use Rattle.std.specs.Option.{option_copied}
use Rattle.ffv1_bits.specs.Bits.{bits_of}
use Rattle.ffv1_plane.specs.RangeSlices.{slice_shape}
use Rattle.ffv1_plane.specs.RiceReading.{IsCodesFaultOf}
use Rattle.ffv1_samples.specs.States.{states_before}
use Rattle.ffv1_samples.specs.Coded.{rice_end}
use Rattle.ffv1_samples.specs.Inner.Coded.{codes_groups}
use Rattle.ffv1_samples.proofs.PlaneSizes.{equal_rows}
use Rattle.ffv1_samples.proofs.Codes.{reader_codes, codes_stuck, codes_coded, codes_fit, codes_values}
use Rattle.ffv1_plane.proofs.Pictures.{after_place}
use Rattle.ffv1_samples.proofs.reading.rice_planes.Goals as goal

pub read_rice_planes-requires-clause-same : goal.read_rice_planes-requires-clause-same
read_rice_planes-requires-clause-same c = λ is p less. equal_rows c.args.recording.now c.args.sizes.now c.requires.sizes is p less

pub read_rice_planes-requires-clause-states : goal.read_rice_planes-requires-clause-states
read_rice_planes-requires-clause-states c =
    reader_codes c.args.recording.now c.sets_of-sets.result c.args.header.now.tables c.args.sizes.now (states_before (option_copied c.args.before)) c.in-Ok.reader
    c.sets_of-sets.ensures c.requires.sizes.count c.requires.before c.in-Ok.ensures.begins

pub returns-in-Ok-read_rice_planes-clause-ok : goal.returns-in-Ok-read_rice_planes-clause-ok
returns-in-Ok-read_rice_planes-clause-ok c =
    let r = c.args.recording.now in
    let before = states_before (option_copied c.args.before) in
    let planes = map (λ plane. plane.items) c.in-Ok-read_rice_planes.planes.items in
    let read = c.in-Ok-read_rice_planes.ensures.read in
    let bits = bits_of (drop c.args.place c.args.content.now) in
    let is = ap (λ (b : Reading). b.left) c.in-Ok.ensures.bits ∙ c.new-bits.ensures.left
    ∙ ap bits_of (after_place c.args.place c.args.content.now) in
    record {
      end = rice_end c.in-Ok-read_rice_planes.after.bits.left (codes_groups c.in-Ok-read_rice_planes.after);
      are_coded =
          codes_coded r c.sets_of-sets.result c.args.header.now.tables c.args.sizes.now bits before c.in-Ok.reader c.sets_of-sets.ensures is
          c.in-Ok.ensures.begins c.in-Ok-read_rice_planes.after planes read;
      reader = (refl, refl);
      fit = (
        c.requires.start.0,
        codes_fit r c.sets_of-sets.result c.args.header.now.tables c.args.sizes.now bits before c.in-Ok.reader c.sets_of-sets.ensures is
            c.in-Ok.ensures.begins c.in-Ok-read_rice_planes.after planes read c.requires.sizes.count,
        codes_values r c.sets_of-sets.result c.args.header.now.tables c.args.sizes.now bits before c.in-Ok.reader c.sets_of-sets.ensures is
            c.in-Ok.ensures.begins c.in-Ok-read_rice_planes.after planes read c.requires.before,
      );
      within = tt;
    }

pub returns-in-Err-Sample-clause-err : goal.returns-in-Err-Sample-clause-err
returns-in-Err-Sample-clause-err c =
    let r = c.args.recording.now in
    let before = states_before (option_copied c.args.before) in
    let bits = bits_of (drop c.args.place c.args.content.now) in
    let is = ap (λ (b : Reading). b.left) c.in-Ok.ensures.bits ∙ c.new-bits.ensures.left
    ∙ ap bits_of (after_place c.args.place c.args.content.now) in
    let given =
    subst (IsCodesFaultOf (slice_shape c.args.recording.now c.sets_of-sets.result c.args.sizes.now) c.in-Ok.reader) c.in-Err-Sample.field-0-is
    c.in-Err-Sample.ensures.err in
    record {
      code = c.in-Err-Sample.fault;
      is = refl;
      stuck =
          codes_stuck r c.sets_of-sets.result c.args.header.now.tables c.args.sizes.now bits before c.in-Ok.reader c.sets_of-sets.ensures is
          c.in-Ok.ensures.begins c.in-Err-Sample.fault c.in-Err-Sample.plane c.in-Err-Sample.y c.in-Err-Sample.x given;
    }
