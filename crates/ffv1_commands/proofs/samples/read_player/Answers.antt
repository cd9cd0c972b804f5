use Rattle.std.proofs.Common.{ap}
use Rattle.std.proofs.lemmas.Result.{err_from_is_err_and}
use Rattle.ffv1_player.specs.Players.{player_value}
use Rattle.ffv1_commands.proofs.RecordFaults.{recording_unread, recording_taken, recording_refused}
use Rattle.ffv1_commands.proofs.samples.read_player.Goals as goal

pub returns-in_err-config : goal.returns-in_err-config
returns-in_err-config g c =
    let p = err_from_is_err_and c.from_residual.result c.from_residual.ensures.1 in
    rw (p.1, p.2) (record { ok = tt; none = tt; err = recording_unread c.args.width c.args.height _ _ c.in_err-config.field-0.0 c.in_err-config.ensures })

pub returns-in_err-new : goal.returns-in_err-new
returns-in_err-new g c =
    let p = err_from_is_err_and c.from_residual-in_err-new.result c.from_residual-in_err-new.ensures.1 in
    let f = c.in_err-new.field-0.0 in
    rw (p.1, p.2) (record {
      ok = tt;
      none = tt;
      err = recording_refused c.args.width c.args.height _ _ c.in_ok-config.config.items _ c.as_slice.ensures.value c.in_ok-config.ensures f
          c.in_err-new.ensures.first;
    })

pub returns : goal.returns
returns g c =
    let player = c.in_ok-new.field-0 in
    record {
      ok = recording_taken c.args.width c.args.height _ _ c.in_ok-config.config.items _ c.as_slice.ensures.value c.in_ok-config.ensures player.recording
          c.in_ok-new.ensures.found;
      none = ap (player_value player.recording) c.in_ok-new.ensures.none;
      err = tt;
    }
