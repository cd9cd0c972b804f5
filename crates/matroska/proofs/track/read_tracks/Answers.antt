use Rattle.std.proofs.Common.{sym, subst, arith}
use Rattle.matroska.proofs.TrackSteps.{TracksSoFar, no_tracks, one_track_more, all_tracks}
use Rattle.matroska.proofs.track.read_tracks.Goals as goal

pub loop-entry-init : goal.loop-entry-init
loop-entry-init c = subst (TracksSoFar c.args.content.now c.args.content.now) (sym c.new-tracks.ensures.items) (no_tracks c.args.content.now)

pub loop-entry-preserved : goal.loop-entry-preserved
loop-entry-preserved c =
    one_track_more c.args.content.now c.loop-entry.left.now c.in-Some.entry.rest.now c.in-Some.entry.bytes.now c.in-Some.entry.place c.loop-entry.tracks.items c.push.new.self.items
    c.track_at.result c.loop-entry.invariant c.in-Some.ensures.placed (omega (arith, c.in-Some.ensures.shorter)) c.track_at.ensures c.in_ok-push.ensures.items

pub returns : goal.returns
returns c = all_tracks c.args.content.now c.loop-entry.left.now c.loop-entry.tracks.items c.loop-entry.invariant c.in_default.ensures.none
