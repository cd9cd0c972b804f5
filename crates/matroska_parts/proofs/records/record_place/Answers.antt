use Rattle.std.proofs.Common.{arith}
use Rattle.matroska_parts.proofs.RecordSteps.{record_ends}
use Rattle.matroska_parts.proofs.records.record_place.Goals as goal

pub overflow_sub-before : goal.overflow_sub-before
overflow_sub-before c = (record_ends c.args.track.now c.args.bytes.now c.requires.has).0

pub overflow_add-result-2 : goal.overflow_add-result-2
overflow_add-result-2 c =
    let ends = record_ends c.args.track.now c.args.bytes.now c.requires.has in
    let less = ends.0 in
    let more = ends.1 in omega (arith, less, more, c.requires.room, c.from.ensures, c.from.type_inv)
