use Rattle.std.proofs.Common.{◌∙◌, ap, refl, sym}
use Rattle.std.proofs.lemmas.Result.{err_from_is_err_and}
use Rattle.ffv1_range.proofs.SetupLaws.{record_in_profile, setup_first, setup_refused}
use Rattle.ffv1_range.proofs.ProfileLaws.{record_of_profile}
use Rattle.ffv1_range.proofs.setup.Setup.read.Goals as goal

pub returns-in_err-recording : goal.returns-in_err-recording
returns-in_err-recording c =
    let p = err_from_is_err_and c.from_residual.result c.from_residual.ensures.1 in
    rw (p.1, p.2)
    (record {
      found = tt;
      only = λ setup s. c.in_err-recording.ensures.only s.recording s.record_of;
      first = setup_first c.args.config.now c.args.width c.args.height c.in_err-recording.field-0.0 c.in_err-recording.ensures.first;
      fault = setup_refused c.args.config.now c.args.width c.args.height c.in_err-recording.field-0.0 c.in_err-recording.ensures.fault;
    })

pub invariant_of-result : goal.invariant_of-result
invariant_of-result c = (
  record_in_profile c.args.config.now c.args.width c.args.height c.in_ok-recording.recording c.in_ok-recording.ensures.found,
  record_of_profile c.args.config.now c.args.width c.args.height c.in_ok-recording.recording c.in_ok-recording.ensures.found,
)

pub returns : goal.returns
returns c =
    record {
      found = record { recording = c.in_ok-recording.recording; record_of = c.in_ok-recording.ensures.found; is = refl };
      only = λ setup s. ap (λ r. r.setup) (c.in_ok-recording.ensures.only s.recording s.record_of) ∙ sym s.is;
      first = tt;
      fault = tt;
    }
