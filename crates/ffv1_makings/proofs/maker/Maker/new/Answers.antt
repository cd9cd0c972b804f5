use Rattle.std.proofs.Common.{subst}
use Rattle.ffv1_range.specs.Setup.{RecordingValue, IsRecordingOf}
use Rattle.ffv1_makings.specs.Asked.{IsAskedRecording}
use Rattle.ffv1_makings.proofs.maker.Maker.new.Goals as goal

pub returns-clause-asked : goal.returns-clause-asked
returns-clause-asked c =
    let width = c.args.width in
    let height = c.args.height in
    let config = c.in_ok-config.config.items in
    let read = c.in_ok-recording.recording in
    let played = c.in_ok-player.player.recording in
    let first = subst (λ bytes. IsRecordingOf bytes width height read) c.deref.ensures.value c.in_ok-recording.ensures in
    let second = subst (λ bytes. IsRecordingOf bytes width height played) c.deref-2.ensures.value c.in_ok-player.ensures.found in
    let same = c.recording_is_one.ensures config width height read played first second in
    let is_asked = c.is_asked.ensures c.if-not-is_asked.false (record { config = config; width = width; height = height; is = first }) in
    subst (λ (r : RecordingValue). IsAskedRecording r c.args.spec) same is_asked
