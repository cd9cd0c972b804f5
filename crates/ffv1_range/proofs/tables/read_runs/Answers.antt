use Rattle.std.proofs.Common.{◌≡◌, ◌+◌, ◌-◌, [], ◌∷◌, ◌++◌, set, take, arith, rules, ap, sym, subst, ◌∙◌}
use Rattle.std.specs.Prelude.{sum}
use Rattle.std.proofs.lemmas.List.{take_more_set}
use Rattle.std.proofs.lemmas.List.Sums.{sum_by_push}
use Rattle.std.proofs.lemmas.Result.{err_from_is_err_and}
use Rattle.ffv1_range.specs.TableForms.{fresh_row, runs_from}
use Rattle.ffv1_range.specs.declared.fault.SetupFault.TheVariants.{Range, TableRun}
use Rattle.ffv1_range.proofs.Forms.{Continues, continue_start, at_ok}
use Rattle.ffv1_range.proofs.TableSteps.{run_turn, run_fails, run_too_long, runs_end, table_fails, table_read}
use Rattle.ffv1_range.proofs.tables.read_runs.Goals as goal

pub loop-filled-init : goal.loop-filled-init
loop-filled-init c =
    record {
      going = continue_start Range (runs_from 128 0 []) c.args.decoder.now fresh_row;
      alive = λ h. absurd (omega arith);
      runs = omega arith;
      whole = omega arith;
      room = search rules;
      sum = search rules;
    }

pub returns-in_err-less : goal.returns-in_err-less
returns-in_err-less c =
    let p = err_from_is_err_and c.from_residual.result c.from_residual.ensures.1 in
    rw (p.1, p.2)
    (table_fails (Range c.in_err-less.field-0.0) c.args.decoder.now c.unsigned.new.self
    (run_fails (runs_from 128 0 []) (128 - c.loop-filled.count) (127 - c.loop-filled.count) c.loop-filled.filled
    (take c.loop-filled.count c.loop-filled.lengths)
    c.in_err-less.field-0.0 c.args.decoder.now c.loop-filled.decoder c.unsigned.new.self fresh_row c.loop-filled.states c.unsigned.new.states
    (omega (arith, c.loop-filled.invariant.runs)) c.loop-filled-test.true c.loop-filled.invariant.going c.in_err-less.ensures.read))

pub returns-then-less-filled : goal.returns-then-less-filled
returns-then-less-filled c =
    table_fails TableRun c.args.decoder.now c.unsigned.new.self
    (run_too_long (runs_from 128 0 []) (128 - c.loop-filled.count) (127 - c.loop-filled.count) c.loop-filled.filled c.in_ok-less.less
    (take c.loop-filled.count c.loop-filled.lengths) c.args.decoder.now c.loop-filled.decoder c.unsigned.new.self fresh_row c.loop-filled.states
    c.unsigned.new.states (omega (arith, c.loop-filled.invariant.runs)) c.loop-filled-test.true (omega arith) c.loop-filled.invariant.going
    c.in_ok-less.ensures.read)

pub loop-filled-preserved : goal.loop-filled-preserved
loop-filled-preserved c =
    let more : take (c.loop-filled.count + 1) (set c.loop-filled.lengths c.loop-filled.count (c.in_ok-less.less + 1))
    ≡ take c.loop-filled.count c.loop-filled.lengths ++ (c.in_ok-less.less + 1) ∷ [] =
    take_more_set c.loop-filled.lengths c.loop-filled.count (c.in_ok-less.less + 1)
    (omega (arith, c.loop-filled.invariant.runs, c.loop-filled.invariant.room)) in
    let left : 127 - c.loop-filled.count ≡ 128 - (c.loop-filled.count + 1) = omega arith in
    record {
      going =
          subst (λ z. Continues Range (runs_from 128 0 []) c.args.decoder.now fresh_row
          (runs_from (128 - (c.loop-filled.count + 1)) (c.loop-filled.filled + (c.in_ok-less.less + 1)) z) c.unsigned.new.self c.unsigned.new.states) (sym more)
          (subst (λ n. Continues Range (runs_from 128 0 []) c.args.decoder.now fresh_row
          (runs_from n (c.loop-filled.filled + (c.in_ok-less.less + 1)) (take c.loop-filled.count c.loop-filled.lengths ++ (c.in_ok-less.less + 1) ∷ []))
          c.unsigned.new.self c.unsigned.new.states) left
          (run_turn (runs_from 128 0 []) (128 - c.loop-filled.count) (127 - c.loop-filled.count) c.loop-filled.filled c.in_ok-less.less
          (take c.loop-filled.count c.loop-filled.lengths) c.args.decoder.now c.loop-filled.decoder c.unsigned.new.self fresh_row c.loop-filled.states
          c.unsigned.new.states (omega (arith, c.loop-filled.invariant.runs)) c.loop-filled-test.true (omega arith) c.loop-filled.invariant.going
          c.in_ok-less.ensures.read));
      alive = λ h. (c.in_ok-less.ensures.read.0, at_ok c.loop-filled.decoder c.unsigned.new.self c.in_ok-less.ensures.read.0 c.in_ok-less.ensures.read.2);
      runs = omega (arith, c.loop-filled.invariant.runs);
      whole = omega arith;
      room = search (rules, c.loop-filled.invariant.room);
      sum = ap sum more ∙ sum_by_push (λ x. x) (take c.loop-filled.count c.loop-filled.lengths) (c.in_ok-less.less + 1)
          ∙ omega (arith, c.loop-filled.invariant.sum);
    }

pub returns : goal.returns
returns c =
    table_read c.args.decoder.now c.loop-filled.decoder c.loop-filled.states (take c.loop-filled.count c.loop-filled.lengths)
    (runs_end (runs_from 128 0 []) (128 - c.loop-filled.count) c.loop-filled.filled (take c.loop-filled.count c.loop-filled.lengths) c.args.decoder.now
    c.loop-filled.decoder fresh_row c.loop-filled.states c.loop-filled-test.false (c.loop-filled.invariant.alive (omega arith)) c.loop-filled.invariant.going)
