use Rattle.std.proofs.Common.{◌<◌, ◌&&◌, List, Option, ℕ, map, length, take, subst, ◌∙◌, refl, arith}
use Rattle.std.proofs.lemmas.Result.{err_from_is_err_and}
use Rattle.std.specs.String.{string_bytes}
use Rattle.ffv1_commands.specs.Devices.{CopyStops}
use Rattle.ffv1_commands.specs.TakeText.{TakesEach}
use Rattle.ffv1_commands.proofs.InputLaws.{length-inputs, inputs_all}
use Rattle.ffv1_commands.proofs.LaterInputs.{inputs_more, rest_kept, stops_here}
use Rattle.ffv1_commands.specs.declared.path.CommandPath.TheVariants as paths
use Rattle.ffv1_commands.proofs.Sources.{goes_taken, copy_goes, copy_unread}
use Rattle.ffv1_commands.proofs.TakeSteps.{takes_none, takes_more, takes_reel, taken_by}
use Rattle.ffv1_commands.proofs.take.take_inputs.Goals as goal

pub loop-index-init : goal.loop-index-init
loop-index-init g c = record {
  taken = takes_none c.args.recordings c.args.holding.now.reel c.args.holding.now
      (string_bytes c.new-lines.result) c.requires.empty c.new-lines.ensures.bytes;
  others = refl;
}

pub loop-index-preserved : goal.loop-index-preserved
loop-index-preserved g c =
    let old = c.args.copies.now in
    let kept = c.loop-index.invariant.others in
    let there : c.loop-index.index < length c.args.copies.now = omega arith in
    let (a, b, so, one) = c.in_ok-in_order.ensures.reported in
    let (log, took) = goes_taken g.I.Inputs.went g.I.Inputs.remaining g.met.I.Inputs.left one.copy _ _ (a, b, so, one.read) in
    let more = takes_more c.args.recordings (take c.loop-index.index (map g.I.Inputs.remaining old)) c.args.holding.now.reel c.loop-index.holding c.take_copy.new.holding
    (string_bytes c.loop-index.lines) (string_bytes c.take_copy.new.lines) _ c.loop-index.index log _ _ c.loop-index.invariant.taken
    (length-inputs g.I.Inputs.remaining old c.loop-index.index (omega arith)) (taken_by _ _ _ _ _ _ _ _ _ one took) in
    record {
      taken = subst (λ (inputs : List (Option (List ℕ))). TakesEach c.args.recordings inputs c.args.holding.now.reel c.take_copy.new.holding
          (string_bytes c.take_copy.new.lines) (c.loop-index.in_order && c.in_ok-in_order.field-0))
          (inputs_more old c.loop-index.copies c.loop-index.index kept g.I.Inputs.remaining there c.index-copies-index.result) more;
      others = rest_kept old c.loop-index.copies c.loop-index.index kept c.take_copy.new.copy;
    }

pub returns-clause-ok : goal.returns-clause-ok
returns-clause-ok g c =
    subst (λ (inputs : List (Option (List ℕ))). TakesEach c.args.recordings inputs c.args.holding.now.reel c.loop-index.holding (string_bytes c.loop-index.lines) c.loop-index.in_order)
    (inputs_all g.I.Inputs.remaining c.args.copies.now c.loop-index.index (omega arith)) c.loop-index.invariant.taken

pub returns-clause-reel : goal.returns-clause-reel
returns-clause-reel g c = takes_reel _ _ _ _ _ _ c.loop-index.invariant.taken

pub returns-in_err-in_order : goal.returns-in_err-in_order
returns-in_err-in_order g c =
    let p = err_from_is_err_and c.from_residual.result c.from_residual.ensures.1 in
    let f = c.in_err-in_order.field-0.0 in
    let i = c.loop-index.index in
    let each = c.loop-index.invariant.taken in
    let kept = c.loop-index.invariant.others in
    let there : i < length c.args.copies.now = omega arith in
    rw (p.1, p.2) (record {
      ok = tt;
      reel = c.take_copy.ensures.reel ∙ takes_reel _ _ _ _ _ _ each;
      err = stops_here c.args.copies.now c.loop-index.copies i kept g.I.Inputs.remaining there c.index-copies-index.result CopyStops
          c.take_copy.new.copy f each.copies each.read (copy_goes g.I.Inputs.went g.I.Inputs.remaining g.met.I.Inputs.left (paths.Copy i) f _ _ c.in_err-in_order.ensures.reported);
      unread = copy_unread g.I.Inputs.went c.args.copies.now c.loop-index.copies i c.index-copies-index.result c.take_copy.new.copy kept
          c.loop-index.auto.copies there f c.in_err-in_order.ensures.reported;
    })
