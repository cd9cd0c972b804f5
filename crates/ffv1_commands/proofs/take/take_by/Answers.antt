use Rattle.std.proofs.Common.{ℕ, List, map, refl, inl, inr, sym, subst}
use Rattle.std.proofs.lemmas.Result.{err_from_is_err_and}
use Rattle.ffv1_commands.specs.Devices.{GivesUpWithin}
use Rattle.ffv1_commands.specs.InTurn.{IfCopyUnread}
use Rattle.ffv1_commands.specs.Inner.Inputs.{Goes}
use Rattle.ffv1_commands.specs.TakeText.{TakesEach}
use Rattle.ffv1_commands.proofs.RecordFaults.{reel_both}
use Rattle.ffv1_commands.proofs.InputFaults.{untouched_both}
use Rattle.ffv1_commands.proofs.MadeFiles.{made_says}
use Rattle.ffv1_commands.proofs.TakeReported.{copies-unwritten, record_read}
use Rattle.ffv1_commands.proofs.take.take_by.Goals as goal

pub returns-in_err-holding : goal.returns-in_err-holding
returns-in_err-holding g c =
    let p = err_from_is_err_and c.from_residual.result c.from_residual.ensures.1 in
    let f = c.in_err-holding.field-0.0 in
    let stops = c.in_err-holding.ensures.err in
    rw (p.1, p.2) (record {
      reported = inl (stops, refl, (refl, refl));
      unread = record_read c.args.recordings _ _ _ c.args.width c.args.height _ _ f stops;
      untouched = reel_both c.args.recordings c.args.width c.args.height _ _ c.args.out.now c.args.output.now f stops;
    })

pub returns-in_err-lines : goal.returns-in_err-lines
returns-in_err-lines g c =
    let p = err_from_is_err_and c.from_residual-in_err-lines.result c.from_residual-in_err-lines.ensures.1 in
    let f = c.in_err-lines.field-0.0 in
    let reel = c.in_ok-holding.holding.reel in
    let stops = c.in_err-lines.ensures.err in
    rw (p.1, p.2) (record {
      reported = inr (inl (reel, c.in_ok-holding.ensures.reel, stops, (refl, refl)));
      unread = c.in_err-lines.ensures.unread;
      untouched = untouched_both c.args.out.now c.args.output.now f (copies-unwritten _ _ _ f stops);
    })

pub returns-in_err-write_made : goal.returns-in_err-write_made
returns-in_err-write_made g c =
    let p = err_from_is_err_and c.from_residual-in_err-write_made.result c.from_residual-in_err-write_made.ensures.1 in
    let f = c.in_err-write_made.field-0.0 in
    let reel = c.in_ok-holding.holding.reel in
    let inputs = map g.I.Inputs.remaining c.args.copies.now in
    let each = subst (λ (lines : List ℕ). TakesEach c.args.recordings inputs reel c.take_inputs.new.holding lines c.in_ok-lines.in_order)
    (sym c.as_str.ensures.value) c.in_ok-lines.ensures.ok in
    rw (p.1, p.2) (record {
      reported = inr (inr (
        c.take_inputs.new.holding,
        c.as_str.result.now,
        c.in_ok-lines.in_order,
        record { reel = reel; of_record = c.in_ok-holding.ensures.reel; each = each },
        c.in_err-write_made.ensures.reported,
      ));
      unread = made_says c.take_inputs.new.holding c.as_str.result.now _ _ _ _ (IfCopyUnread (Goes g.I.Inputs.went GivesUpWithin) _ _) (λ file. tt) tt tt f
          c.in_err-write_made.ensures.reported;
      untouched = c.in_err-write_made.ensures.untouched;
    })

pub returns : goal.returns
returns g c =
    let reel = c.in_ok-holding.holding.reel in
    let inputs = map g.I.Inputs.remaining c.args.copies.now in
    let each = subst (λ (lines : List ℕ). TakesEach c.args.recordings inputs reel c.take_inputs.new.holding lines c.in_ok-lines.in_order)
    (sym c.as_str.ensures.value) c.in_ok-lines.ensures.ok in
    record {
      reported = (
        c.take_inputs.new.holding,
        c.as_str.result.now,
        record { reel = reel; of_record = c.in_ok-holding.ensures.reel; each = each },
        c.in_ok-write_made.ensures.reported,
      );
      unread = tt;
      untouched = tt;
    }
