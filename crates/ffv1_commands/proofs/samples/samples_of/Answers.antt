use Rattle.std.proofs.Common.{refl, inl, inr}
use Rattle.std.proofs.lemmas.Result.{err_from_is_err_and}
use Rattle.ffv1_commands.proofs.SamplesSteps.{play_is_later, begun_as, stop_from_none, first_from_none, all_from_none}
use Rattle.ffv1_commands.proofs.RecordFaults.{recording_in_turn}
use Rattle.ffv1_commands.proofs.samples.samples_of.Goals as goal

pub returns-in_err-player : goal.returns-in_err-player
returns-in_err-player g c =
    let p = err_from_is_err_and c.from_residual.result c.from_residual.ensures.1 in
    let f = c.in_err-player.field-0.0 in
    let stops = c.in_err-player.ensures.err in
    rw (p.1, p.2) (record {
      reported = inl (stops, refl, (refl, refl));
      untouched = recording_in_turn c.args.width c.args.height _ _ _ (refl, refl, refl) f stops;
      begun = inl (refl, refl);
    })

pub returns-in_err-play_frames : goal.returns-in_err-play_frames
returns-in_err-play_frames g c =
    let p = err_from_is_err_and c.from_residual-in_err-play_frames.result c.from_residual-in_err-play_frames.ensures.1 in
    let stop = c.in_err-play_frames.field-0.0 in
    let player = c.in_ok-player.player in
    let takes = c.in_ok-player.ensures.ok in
    rw (p.1, p.2) (record {
      reported = inr (
        stop,
        refl,
        (player.recording, takes, stop_from_none player c.in_ok-player.ensures.none _ _ _ _ _ _ stop c.in_err-play_frames.ensures.played),
      );
      untouched = play_is_later stop _;
      begun = begun_as (λ first. (player.recording, takes, first_from_none player c.in_ok-player.ensures.none _ _ first))
          c.in_err-play_frames.ensures.untouched;
    })

pub returns : goal.returns
returns g c =
    let player = c.in_ok-player.player in
    record {
      reported = (
        player.recording,
        c.in_ok-player.ensures.ok,
        all_from_none player c.in_ok-player.ensures.none _ _ _ _ _ _ _ c.in_ok-play_frames.ensures.played,
      );
      untouched = tt;
      begun = tt;
    }
