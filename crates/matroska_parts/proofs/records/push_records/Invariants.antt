use Rattle.std.proofs.Common.{take}
use Rattle.matroska_parts.specs.RecordParts.{AreRecordParts}
use Rattle.matroska_parts.specs.Inner.Added.{AddsParts}
use Rattle.matroska_parts.proofs.records.push_records.Given as goal

abbrev pub invariant-loop-track : goal.invariant-loop-track
invariant-loop-track l = AddsParts (AreRecordParts l.place l.is_vouched (take l.track-index l.tracks)) l.fn.parts.items l.parts.items
