use Rattle.std.proofs.Common.{ℕ, Vec, Global, Err, map, refl, ◌∙◌}
use Rattle.std.proofs.lemmas.Result.{err_from_is_err_and}
use Rattle.ffv1_commands.proofs.InputFaults.{IsUnwritten, untouched_both}
use Rattle.ffv1_commands.proofs.WrittenBoth.{both_untouched}
use Rattle.ffv1_commands.proofs.SpliceCommandSteps.{length_says, length_refused, splices, splice_stopped}
use Rattle.ffv1_commands.proofs.splice.write_splice.Goals as goal

pub returns-in_err-spliced : goal.returns-in_err-spliced
returns-in_err-spliced g c =
    let p = err_from_is_err_and c.from_residual.result c.from_residual.ensures.1 in
    let f = c.in_err-spliced.field-0.0 in
    let copies = map (λ (copy : Vec ℕ Global). copy.items) c.args.read.items in
    let stops = c.in_err-spliced.ensures.err in
    let none = length_says copies IsUnwritten f (λ index is. tt) tt stops in
    rw (p.1, p.2) (record {
      ok = tt;
      err = length_refused copies _ _ f stops;
      untouched = untouched_both c.args.out.now c.args.output.now f none;
    })

pub returns-in_err-text : goal.returns-in_err-text
returns-in_err-text g c =
    let p = err_from_is_err_and c.from_residual-in_err-text.result c.from_residual-in_err-text.ensures.1 in
    rw (p.1, p.2) (record {
      ok = tt;
      err = (refl, refl);
      untouched = (refl {a = c.args.out.now}, refl {a = c.args.output.now});
    })

pub returns-in_err-write_both : goal.returns-in_err-write_both
returns-in_err-write_both g c =
    let p = err_from_is_err_and c.from_residual-in_err-write_both.result c.from_residual-in_err-write_both.ensures.1 in
    let f = c.in_err-write_both.field-0.0 in
    let wrote = c.in_err-write_both.ensures in
    let copies = map (λ (copy : Vec ℕ Global). copy.items) c.args.read.items in
    let spliced = c.in_ok-spliced.spliced in
    let is = c.in_ok-spliced.ensures.ok in
    let text = c.as_str.ensures.value ∙ c.in_ok-text.ensures in
    let stops = splice_stopped copies _ _ _ _ spliced is c.payload.result.now c.as_str.result.now c.payload.ensures text f wrote in
    rw (p.1, p.2) (record {
      ok = tt;
      err = stops;
      untouched = both_untouched c.payload.result.now c.as_str.result.now _ _ _ _ {T = Unit {0}} _ (Err f) wrote;
    })

pub returns : goal.returns
returns g c =
    let wrote = c.in_ok-write_both.ensures in
    let copies = map (λ (copy : Vec ℕ Global). copy.items) c.args.read.items in
    let spliced = c.in_ok-spliced.spliced in
    let is = c.in_ok-spliced.ensures.ok in
    let text = c.as_str.ensures.value ∙ c.in_ok-text.ensures in
    record {
      ok = splices copies _ _ _ _ spliced is c.payload.result.now c.as_str.result.now c.payload.ensures text c.is_given_back.result
          c.is_given_back.ensures wrote.0 wrote.1;
      err = tt;
      untouched = tt;
    }
