use Rattle.std.proofs.Common.{◌+◌, ◌-◌, ◌/◌, ◌<◌, [], Ok, ◌∙◌, take, arith, subst}
use Rattle.std.proofs.lemmas.List.{length-set, take_all}
use Rattle.std.proofs.lemmas.Result.{err_from_is_err_and}
use Rattle.ffv1_range.specs.Tables.{scale_after}
use Rattle.ffv1_range.specs.Forms.{ReadsForm}
use Rattle.ffv1_range.specs.TableForms.{tables_from}
use Rattle.ffv1_range.specs.declared.fault.SetupFault.TheVariants.{Range}
use Rattle.ffv1_range.proofs.Forms.{at_ok}
use Rattle.ffv1_range.proofs.TableSteps.{set_fails, set_more, set_too_fine, set_end}
use Rattle.ffv1_range.proofs.tables.read_set.Goals as goal

pub returns-in_err-runs : goal.returns-in_err-runs
returns-in_err-runs c =
    let p = err_from_is_err_and c.from_residual.result c.from_residual.ensures.1 in
    rw (p.1, p.2)
    (set_fails (tables_from 5 1 []) (5 - c.loop-table.table) (4 - c.loop-table.table) c.loop-table.scale (take c.loop-table.table c.loop-table.halves)
    c.in_err-runs.field-0.0 c.args.decoder.now c.loop-table.decoder c.read_runs.new.decoder (omega arith) c.loop-table.invariant.going c.in_err-runs.ensures)

pub returns-then-next-gt65535 : goal.returns-then-next-gt65535
returns-then-next-gt65535 c =
    set_too_fine (tables_from 5 1 []) (5 - c.loop-table.table) (4 - c.loop-table.table) c.loop-table.scale (take c.loop-table.table c.loop-table.halves)
    c.in_ok-runs.runs c.args.decoder.now c.loop-table.decoder c.read_runs.new.decoder (omega arith)
    (subst (λ z. 65535 < scale_after c.loop-table.scale z) c.lengths.ensures.value c.if-next-gt65535.true) c.loop-table.invariant.going c.in_ok-runs.ensures

pub loop-table-preserved : goal.loop-table-preserved
loop-table-preserved c =
    record {
      going =
          set_more c.loop-table.halves c.half_table.result c.lengths.result.now c.in_ok-runs.runs c.loop-table.table c.loop-table.scale c.args.decoder.now
          c.loop-table.decoder c.read_runs.new.decoder c.lengths.ensures.value c.half_table.ensures (omega arith) c.loop-table.invariant.five
          c.if-next-gt65535.false c.loop-table.invariant.going c.in_ok-runs.ensures;
      alive = λ h. (c.in_ok-runs.ensures.0, at_ok c.loop-table.decoder c.read_runs.new.decoder c.in_ok-runs.ensures.0 c.in_ok-runs.ensures.2);
      small = c.if-next-gt65535.false;
      five = length-set c.loop-table.halves c.loop-table.table c.half_table.result ∙ c.loop-table.invariant.five;
    }

pub returns : goal.returns
returns c =
    subst (λ z. ReadsForm Range (tables_from 5 1 []) c.args.decoder.now tt
    (Ok (record { halves = z; contexts = (c.loop-table.scale + 1) / 2 })) c.loop-table.decoder tt)
    (take_all c.loop-table.table c.loop-table.halves (omega (arith, c.loop-table.invariant.five)))
    (set_end (tables_from 5 1 []) (5 - c.loop-table.table) c.loop-table.scale
    (take c.loop-table.table c.loop-table.halves) c.args.decoder.now c.loop-table.decoder
    (omega arith) (c.loop-table.invariant.alive (omega arith)) c.loop-table.invariant.going)
