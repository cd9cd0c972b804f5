use Rattle.std.proofs.Common.{◌∙◌, ap}
use Rattle.ffv1_player.proofs.Showing.{record_at, reel_recording}
use Rattle.ffv1_player.proofs.shown.recording_of.Goals as goal

pub returns-in-Ok : goal.returns-in-Ok
returns-in-Ok g c =
    let reel = c.args.holding.now.reel in
    let setup = c.recording.ensures.setup ∙ ap (λ z. z.setup) c.reel-reel.ensures.value in
    let other = c.recording-2.ensures.setup ∙ ap (λ z. z.setup) c.reel-reel.ensures.value in
    reel_recording reel c.reel-reel.ensures.well_formed.reel c.in-Ok.recording
    (record_at reel _ _ _ c.in-Ok.recording (c.config.ensures ∙ ap (λ z. z.config) c.reel-reel.ensures.value) (c.width-width.ensures ∙ ap (λ s. s.width) setup)
    (c.height-height.ensures ∙ ap (λ s. s.height) other) c.in-Ok.ensures.found)
