use Rattle.std.proofs.Common.{ℕ, sym, refl, subst, inl, inr}
use Rattle.std.proofs.lemmas.List.{length-map}
use Rattle.std.proofs.lemmas.Result.{err_from_is_err_and}
use Rattle.ffv1_stretches.specs.declared.pass.MendFault.TheVariants as stops
use Rattle.ffv1_commands.specs.Fault.{of_mend}
use Rattle.ffv1_commands.specs.MendText.{IsFaultOfList}
use Rattle.ffv1_commands.proofs.MendCommandSteps.{listed_so, list_kept, or_touched, pass_is_later}
use Rattle.ffv1_commands.proofs.mend.mend_of.Goals as goal

pub returns-in_err-stretches : goal.returns-in_err-stretches
returns-in_err-stretches g c =
    let p = err_from_is_err_and c.from_residual.result c.from_residual.ensures.1 in
    let f = c.in_err-stretches.field-0.0 in
    rw (p.1, p.2) (record {
      reported = inl (
        subst (λ (n : ℕ). IsFaultOfList n (g.R.Source.log c.args.list.now) (g.R.Source.log c.listed_stretches.new.list) f)
            (sym (length-map c.args.copies.now _)) c.in_err-stretches.ensures.err,
        refl,
        (refl, refl),
      );
      untouched = list_kept _ f (refl, refl, refl);
      out_untouched = inr (inl refl);
      output_untouched = inr (inl refl);
    })

pub returns-in_err-mend_stretches : goal.returns-in_err-mend_stretches
returns-in_err-mend_stretches g c =
    let p = err_from_is_err_and c.from_residual-in_err-mend_stretches.result c.from_residual-in_err-mend_stretches.ensures.1 in
    let stop = c.in_err-mend_stretches.field-0.0 in
    rw (p.1, p.2) (record {
      reported = inr (
        stop,
        refl,
        listed_so _ _ _ _ _ c.in_ok-stretches.stretches.items _ c.as_slice.ensures.value (sym (length-map c.args.copies.now _)) c.in_ok-stretches.ensures.ok
            c.in_err-mend_stretches.ensures.mended,
      );
      untouched = pass_is_later stop _;
      out_untouched = or_touched of_mend stop stops.Out c.in_err-mend_stretches.ensures.out_untouched;
      output_untouched = or_touched of_mend stop stops.Output c.in_err-mend_stretches.ensures.output_untouched;
    })

pub returns : goal.returns
returns g c = record {
  reported = listed_so _ _ _ _ _ c.in_ok-stretches.stretches.items _ c.as_slice.ensures.value (sym (length-map c.args.copies.now _))
      c.in_ok-stretches.ensures.ok c.in_ok-mend_stretches.ensures.mended;
  untouched = tt;
  out_untouched = tt;
  output_untouched = tt;
}
