use Rattle.std.proofs.Common.{◌≡◌, ◌+◌, ◌-◌, [], ◌∷◌, ◌++◌, arith, ap, sym, subst, ◌∙◌}
use Rattle.std.proofs.lemmas.List.{map-append}
use Rattle.std.proofs.lemmas.Result.{err_from_is_err_and}
use Rattle.ffv1_range.specs.TableForms.{sets_from}
use Rattle.ffv1_range.specs.Views.{set_value, set_values}
use Rattle.ffv1_range.specs.declared.fault.SetupFault.TheVariants.{Range}
use Rattle.ffv1_range.proofs.Forms.{Continues, at_ok}
use Rattle.ffv1_range.proofs.TableSteps.{sets_fails, sets_turn, sets_end}
use Rattle.ffv1_range.proofs.tables.read_sets.Goals as goal

pub returns-in_err-set : goal.returns-in_err-set
returns-in_err-set c =
    let p = err_from_is_err_and c.from_residual.result c.from_residual.ensures.1 in
    rw (p.1, p.2)
    (record {
      read = sets_fails (sets_from c.args.count []) (c.args.count - c.loop.counter) (c.args.count - (c.loop.counter + 1))
          (set_values c.loop.sets.items) c.in_err-set.field-0.0
          c.args.decoder.now c.loop.decoder c.read_set.new.decoder (omega arith) c.loop.invariant.going c.in_err-set.ensures;
    })

pub loop-preserved : goal.loop-preserved
loop-preserved c =
    let more : set_values c.loop.sets.items ++ set_value c.in_ok-set.set ∷ [] ≡ set_values c.push_reserved.new.self.items =
    sym (ap set_values c.push_reserved.ensures.items ∙ map-append set_value c.loop.sets.items (c.in_ok-set.set ∷ [])) in
    record {
      going =
          subst (λ z. Continues Range (sets_from c.args.count []) c.args.decoder.now tt
          (sets_from (c.args.count - (c.loop.counter + 1)) z) c.read_set.new.decoder tt) more
          (sets_turn (sets_from c.args.count []) (c.args.count - c.loop.counter) (c.args.count - (c.loop.counter + 1)) (set_values c.loop.sets.items)
          (set_value c.in_ok-set.set) c.args.decoder.now c.loop.decoder c.read_set.new.decoder (omega arith) c.loop.invariant.going c.in_ok-set.ensures);
      alive = λ h. (c.in_ok-set.ensures.0, at_ok c.loop.decoder c.read_set.new.decoder c.in_ok-set.ensures.0 c.in_ok-set.ensures.2);
      size = omega (arith, c.push_reserved.ensures.len, c.loop.invariant.size);
      room = c.push_reserved.ensures.capacity ∙ c.loop.invariant.room;
    }

pub returns : goal.returns
returns c =
    record {
      read = sets_end (sets_from c.args.count []) (c.args.count - c.loop.counter) (set_values c.loop.sets.items) c.args.decoder.now c.loop.decoder
          (omega arith) (c.loop.invariant.alive (omega arith)) c.loop.invariant.going;
    }
