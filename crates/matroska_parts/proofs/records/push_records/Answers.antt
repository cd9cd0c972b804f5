use Rattle.std.proofs.Common.{take, get_or, sym, subst}
use Rattle.std.proofs.lemmas.List.{take_more, take_all}
use Rattle.matroska_parts.specs.RecordParts.{AreRecordParts}
use Rattle.matroska_parts.specs.Inner.Added.{AddsParts}
use Rattle.matroska_parts.proofs.BlockSteps.{no_track}
use Rattle.matroska_parts.proofs.RecordSteps.{one_record_more, no_records}
use Rattle.matroska_parts.proofs.records.push_records.Goals as goal

pub loop-track-init : goal.loop-track-init
loop-track-init c = no_records c.args.place c.args.is_vouched c.args.parts.now.items

pub loop-track-preserved : goal.loop-track-preserved
loop-track-preserved c =
    let i = c.loop-track.track-index in
    let grown = take_more c.args.tracks.now c.loop-track.track-index no_track c.loop-track-test.true in
    subst (λ z. AddsParts (AreRecordParts c.args.place c.args.is_vouched z) c.args.parts.now.items c.push_record.new.parts.items) (sym grown)
    (one_record_more c.args.place c.args.is_vouched (take c.loop-track.track-index c.args.tracks.now) (get_or c.args.tracks.now c.loop-track.track-index no_track) c.args.parts.now.items
    c.loop-track.parts.items c.push_record.new.parts.items c.loop-track.invariant c.in_ok-push_record.ensures)

pub returns : goal.returns
returns c =
    subst (λ z. AddsParts (AreRecordParts c.args.place c.args.is_vouched z) c.args.parts.now.items c.loop-track.parts.items) (take_all c.loop-track.track-index c.args.tracks.now c.loop-track-test.false)
    c.loop-track.invariant
