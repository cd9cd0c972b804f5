use Rattle.std.proofs.Common.{arith, ◌<◌, ◌++◌, ◌∷◌, [], List, ℕ, Bor, Vec, Global, map, length, take, sym, ap, ◌∙◌}
use Rattle.std.proofs.lemmas.Grind.{common_steps}
use Rattle.ffv1_commands.proofs.LaterInputs.{map_more}
use Rattle.ffv1_commands.proofs.SpliceCommandSteps.{map_push}
use Rattle.ffv1_commands.proofs.splice.spliced_of.Goals as goal

pub loop-copy-preserved : goal.loop-copy-preserved
loop-copy-preserved c =
    let lt : c.loop-copy.copy-index < length c.args.copies.now = c.loop-copy-test.true in
    sym (map_push (λ (slice : Bor (List ℕ)). slice.now) c.loop-copy.slices.items c.push.new.self.items c.as_slice.result c.in_ok-push.ensures.items)
    ∙ ap (λ z. z ++ c.as_slice.result.now ∷ []) c.loop-copy.invariant
    ∙ ap (λ y. take c.loop-copy.copy-index (map (λ (copy : Vec ℕ Global). copy.items) c.args.copies.now) ++ y ∷ [])
    (c.as_slice.ensures.value ∙ ap (λ (copy : Vec ℕ Global). copy.items) c.copy-item.is)
    ∙ map_more (λ (copy : Vec ℕ Global). copy.items) c.args.copies.now c.loop-copy.copy-index c.copy-item.result lt

pub returns-in-Err-OtherLength-clause-err : goal.returns-in-Err-OtherLength-clause-err
returns-in-Err-OtherLength-clause-err c = grind (arith, common_steps)
