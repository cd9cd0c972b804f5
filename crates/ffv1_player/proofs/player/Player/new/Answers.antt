use Rattle.std.proofs.Common.{ap}
use Rattle.std.specs.Prelude.{None}
use Rattle.std.proofs.lemmas.Result.{err_from_is_err_and}
use Rattle.ffv1_player.specs.Players.{player_value}
use Rattle.ffv1_player.proofs.SmallRecords.{record_to, record_from}
use Rattle.ffv1_player.proofs.player.Player.new.Goals as goal

pub returns-in_err-recording-clause-only : goal.returns-in_err-recording-clause-only
returns-in_err-recording-clause-only c =
    λ r is.
    let p = err_from_is_err_and c.from_residual.result c.from_residual.ensures.1 in
    rw (p.1, p.2) (c.in_err-recording.ensures.only r is)

pub returns-clause-only : goal.returns-clause-only
returns-clause-only c = λ r is. ap (λ recording. player_value recording None) (c.in_ok-recording.ensures.only r is)

pub returns-in_err-recording-clause-said : goal.returns-in_err-recording-clause-said
returns-in_err-recording-clause-said c =
    λ r is.
    let p = err_from_is_err_and c.from_residual.result c.from_residual.ensures.1 in
    rw (p.1, p.2) (c.in_err-recording.ensures.only r (record_from c.args.config.now c.args.width c.args.height r is))

pub returns-clause-says : goal.returns-clause-says
returns-clause-says c = record_to c.args.config.now c.args.width c.args.height c.in_ok-recording.recording c.in_ok-recording.ensures.found

pub returns-clause-said : goal.returns-clause-said
returns-clause-said c = λ r is. c.in_ok-recording.ensures.only r (record_from c.args.config.now c.args.width c.args.height r is)
