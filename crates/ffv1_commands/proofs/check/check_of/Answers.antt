use Rattle.std.proofs.Common.{refl, subst, ◌∙◌}
use Rattle.std.proofs.lemmas.Result.{err_from_is_err_and}
use Rattle.ffv1_devices.specs.Logs.{Writes}
use Rattle.ffv1_commands.specs.CheckText.{TakesReport}
use Rattle.ffv1_commands.proofs.CheckCommandSteps.{check_unfound, check_unread, check_untold, check_untouched, check_unwritten}
use Rattle.ffv1_commands.proofs.check.check_of.Goals as goal

pub returns-in_err-found : goal.returns-in_err-found
returns-in_err-found g c =
    let p = err_from_is_err_and c.from_residual.result c.from_residual.ensures.1 in
    let f = c.in_err-found.field-0.0 in
    rw (p.1, p.2) (record {
      reported = check_unfound _ _ _ (g.W.Sink.log c.args.output.now) f c.in_err-found.ensures;
      untouched = check_untouched c.args.output.now f;
    })

pub returns-in_err-report : goal.returns-in_err-report
returns-in_err-report g c =
    let p = err_from_is_err_and c.from_residual-in_err-report.result c.from_residual-in_err-report.ensures.1 in
    let f = c.in_err-report.field-0.0 in
    rw (p.1, p.2) (record {
      reported = check_unread _ _ _ _ (g.W.Sink.log c.args.output.now) c.in_ok-found.found c.in_ok-found.ensures f c.in_err-report.ensures;
      untouched = check_untouched c.args.output.now f;
    })

pub returns-in_err-text-clause-reported : goal.returns-in_err-text-clause-reported
returns-in_err-text-clause-reported g c =
    let p = err_from_is_err_and c.from_residual-in_err-text.result c.from_residual-in_err-text.ensures.1 in
    let report = c.in_ok-report.report in
    let takes : TakesReport (g.R.Source.log c.args.first.now) (g.R.Source.log c.find_tracks.new.source) (g.S.Source.log c.args.second.now)
    (g.S.Source.log c.check_source.new.source) report =
    record { found = c.in_ok-found.found; finds = c.in_ok-found.ensures; checks = c.in_ok-report.ensures } in
    rw (p.1, p.2) (check_untold _ _ _ _ _ report takes)

pub returns-in_err-write_file-clause-reported : goal.returns-in_err-write_file-clause-reported
returns-in_err-write_file-clause-reported g c =
    let p = err_from_is_err_and c.from_residual-in_err-write_file.result c.from_residual-in_err-write_file.ensures.1 in
    let f = c.in_err-write_file.field-0.0 in
    let report = c.in_ok-report.report in
    let takes : TakesReport (g.R.Source.log c.args.first.now) (g.R.Source.log c.find_tracks.new.source) (g.S.Source.log c.args.second.now)
    (g.S.Source.log c.check_source.new.source) report =
    record { found = c.in_ok-found.found; finds = c.in_ok-found.ensures; checks = c.in_ok-report.ensures } in
    rw (p.1, p.2) (check_unwritten _ _ _ _ _ _ report takes c.as_bytes.result.now (c.as_bytes.ensures.value ∙ c.in_ok-text.ensures) f c.in_err-write_file.ensures.wrote)

pub returns-clause-reported : goal.returns-clause-reported
returns-clause-reported g c =
    let report = c.in_ok-report.report in
    let takes : TakesReport (g.R.Source.log c.args.first.now) (g.R.Source.log c.find_tracks.new.source) (g.S.Source.log c.args.second.now)
    (g.S.Source.log c.check_source.new.source) report =
    record { found = c.in_ok-found.found; finds = c.in_ok-found.ensures; checks = c.in_ok-report.ensures } in
    (report, takes, refl, subst (Writes _ _) (c.as_bytes.ensures.value ∙ c.in_ok-text.ensures) c.in_ok-write_file.ensures.wrote)
