use Rattle.std.proofs.Common.{◌<◌, List, Option, ℕ, map, length, take, subst, arith}
use Rattle.std.proofs.lemmas.Result.{err_from_is_err_and}
use Rattle.ffv1_commands.specs.Devices.{FileStops}
use Rattle.ffv1_commands.specs.InTurn.{AreTaken}
use Rattle.ffv1_commands.specs.declared.fault.CliFault.TheVariants as faults
use Rattle.ffv1_commands.specs.declared.path.CommandPath.TheVariants as paths
use Rattle.ffv1_commands.proofs.InputLaws.{AreTaken-push}
use Rattle.ffv1_commands.proofs.LaterInputs.{inputs_more, rest_kept, stops_here}
use Rattle.ffv1_commands.proofs.Sources.{goes_taken, file_goes, file_unread}
use Rattle.ffv1_commands.proofs.SpliceCommandSteps.{map_push}
use Rattle.ffv1_commands.proofs.splice.read_inputs.Goals as goal

pub loop-index-preserved : goal.loop-index-preserved
loop-index-preserved g c =
    let old = c.args.copies.now in
    let kept = c.loop-index.invariant.others in
    let there : c.loop-index.index < length c.args.copies.now = omega arith in
    let more = AreTaken-push (take c.loop-index.index (map g.I.Inputs.remaining old)) (map (λ copy. copy.items) c.loop-index.read.items) _
    c.in_ok-copy.copy.items c.loop-index.invariant.read
    (goes_taken g.I.Inputs.went g.I.Inputs.remaining g.met.I.Inputs.left c.in_ok-copy.copy.items _ _ c.in_ok-copy.ensures) in
    record {
      read = subst (λ (inputs : List (Option (List ℕ))). AreTaken inputs (map (λ copy. copy.items) c.push.new.self.items))
          (inputs_more old c.loop-index.copies c.loop-index.index kept g.I.Inputs.remaining there c.index-copies-index.result)
          (subst (AreTaken _) (map_push (λ copy. copy.items) c.loop-index.read.items c.push.new.self.items c.in_ok-copy.copy c.in_ok-push.ensures.items) more);
      others = rest_kept old c.loop-index.copies c.loop-index.index kept c.file.new.input;
    }

pub returns-in_err-copy : goal.returns-in_err-copy
returns-in_err-copy g c =
    let p = err_from_is_err_and c.from_residual.result c.from_residual.ensures.1 in
    let f = c.in_err-copy.field-0.0 in
    let i = c.loop-index.index in
    let kept = c.loop-index.invariant.others in
    let there : i < length c.args.copies.now = omega arith in
    rw (p.1, p.2) (record {
      ok = tt;
      err = stops_here c.args.copies.now c.loop-index.copies i kept g.I.Inputs.remaining there c.index-copies-index.result FileStops
          c.file.new.input f (map (λ copy. copy.items) c.loop-index.read.items) c.loop-index.invariant.read
          (file_goes g.I.Inputs.went g.I.Inputs.remaining g.met.I.Inputs.left (paths.Copy i) f _ _ c.in_err-copy.ensures);
      unread = file_unread g.I.Inputs.went c.args.copies.now c.loop-index.copies i c.index-copies-index.result c.file.new.input kept
          c.loop-index.auto.copies there f c.in_err-copy.ensures;
    })

pub returns-in_err-push-clause-err : goal.returns-in_err-push-clause-err
returns-in_err-push-clause-err g c =
    let p = err_from_is_err_and c.from_residual-in_err-push.result c.from_residual-in_err-push.ensures.1 in
    let i = c.loop-index.index in
    let (a, b, so, took) = c.in_ok-copy.ensures in
    rw (p.1, p.2) (stops_here c.args.copies.now c.loop-index.copies i c.loop-index.invariant.others g.I.Inputs.remaining
    (omega arith) c.index-copies-index.result FileStops c.file.new.input faults.Memory (map (λ copy. copy.items) c.loop-index.read.items)
    c.loop-index.invariant.read (file_goes g.I.Inputs.went g.I.Inputs.remaining g.met.I.Inputs.left (paths.Copy i) faults.Memory _ _
    (a, b, so, (c.in_ok-copy.copy.items, took.read, took.few))))
