use Rattle.std.proofs.Common.{◌≡◌, ◌<◌, ℕ, List, length, get_or, Some, sym, ap, ◌∙◌, subst, arith}
use Rattle.std.specs.Prelude.{Option, IfSome, slice_index_or}
use Rattle.std.proofs.lemmas.List.{get_or-map}
use Rattle.std.proofs.lemmas.Grind.{common_steps}
use Rattle.ffv1_range.specs.Setup.{set_contexts}
use Rattle.ffv1_range.specs.InitialStates.{uncoded_states}
use Rattle.ffv1_range.specs.Views.{states_value, states_values}
use Rattle.ffv1_range.specs.declared.tables.TableSet.{TableSet}
use Rattle.ffv1_range.proofs.recording.Recording.initial.Goals as goal

-- the value of the states of a set
value_at : (sets : List TableSet) (set : ℕ) (kept : TableSet) → set < length sets → kept ≡ get_or sets set kept
    → slice_index_or (states_values sets) set uncoded_states ≡ states_value kept.states
value_at sets set kept h is =
    get_or-map (λ set. states_value set.states) sets set kept uncoded_states h ∙ ap (λ z. states_value z.states) (sym is)

size_of : (initial : Option (List (List ℕ))) (states : List (List ℕ)) (n : ℕ) → initial ≡ Some states → IfSome initial (λ states. length states ≡ n)
    → length states ≡ n
size_of initial states n is h = subst (λ o. IfSome o (λ states. length states ≡ n)) is h

pub returns-in-Kept-clause-each : goal.returns-in-Kept-clause-each
returns-in-Kept-clause-each c =
    let many : c.args.set < length c.self.inside.sets.items = grind (arith, common_steps, c.requires) in
    let value = value_at c.self.inside.sets.items c.args.set c.index.result.now many c.index.ensures ∙ ap states_value c.in-Kept.is in
    let size = size_of _ c.in-Kept.states.items _ (ap (λ z. z.initial) value) (c.self.invariant.initial c.args.set) in
    let view = ap (λ z. set_contexts z.setup c.args.set) c.self.view_is in
    ap length c.deref.ensures.value ∙ size ∙ view
