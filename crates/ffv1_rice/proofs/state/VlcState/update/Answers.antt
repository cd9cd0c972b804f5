use Rattle.std.proofs.Common.{◌≡◌, sym, ap, subst, ◌∙◌}
use Rattle.ffv1_rice.specs.declared.state.VlcState.TheInside.{Inside}
use Rattle.ffv1_rice.specs.States.{ContextState, IsState, updated, greatest_depth}
use Rattle.ffv1_rice.proofs.Depths.{greatest}
use Rattle.ffv1_rice.proofs.Sums.{IsDifference-of_z, to_z-of_z-difference, drift_kept, bias_kept, bias_stays, same_state}
use Rattle.ffv1_rice.proofs.state.VlcState.update.Goals as goal
use Rattle.ffv1_rice.proofs.state.VlcState.update.Goals.{then-next-self, else-next-self}

pub invariant_of-updated : goal.invariant_of-updated
invariant_of-updated c = tt

pub invariant_of-updated-2 : goal.invariant_of-updated-2
invariant_of-updated-2 c = subst (λ (i : Inside). IsState greatest_depth i.sums) (sym c.self-inside.view_is) c.self.invariant

pub updated-requires : goal.updated-requires
updated-requires c = IsDifference-of_z greatest_depth c.args.value greatest c.requires

abbrev old_state : (c : goal.After-self-4-1) → ContextState
old_state c =
    let old = c.self-inside.inside.0.0 in
    record { drift = old.drift; error_sum = old.error_sum; bias = old.bias; count = old.count }

old_bounds : (c : goal.After-self-4-1) → IsState greatest_depth (old_state c)
old_bounds c = subst (λ (i : Inside). IsState greatest_depth i.sums) (sym c.self-inside.view_is) c.self.invariant

-- the numbers that are written are those of the next state
abbrev next_state : (c : goal.After-self-4-1) → ContextState
next_state c =
    record { drift = c.next-2.inside.drift; error_sum = c.next-2.inside.error_sum; bias = c.next-2.inside.bias; count = c.next-2.inside.count }

next_bounds : (c : goal.After-self-4-1) → IsState greatest_depth (next_state c)
next_bounds c = subst (IsState greatest_depth) (sym c.next-2.view_is) c.next.invariant

pub invariant_of-self-inside : goal.invariant_of-self-inside
invariant_of-self-inside c = tt

pub invariant_of-self : goal.invariant_of-self
invariant_of-self c =
    let bias_is : c.if-next-self.self-inside-inside.0.0.bias ≡ c.next-2.inside.bias = elim c.if-next-self.branch [
      | then-next-self w ↦ ap (λ z. z.0.0.bias) w.self-inside-inside-is ∙ bias_kept (next_state c) (next_bounds c)
      | else-next-self w ↦
          ap (λ z. z.0.0.bias) w.self-inside-inside-is ∙ bias_stays (old_state c) (next_state c) (old_bounds c) (next_bounds c) w.if-next-self.false
    ] in
    subst (IsState greatest_depth) (sym (same_state (next_state c) _ _ (drift_kept (next_state c) (next_bounds c)) bias_is)) (next_bounds c)

pub returns : goal.returns
returns c =
    let bias_is : c.if-next-self.self-inside-inside.0.0.bias ≡ c.next-2.inside.bias = elim c.if-next-self.branch [
      | then-next-self w ↦ ap (λ z. z.0.0.bias) w.self-inside-inside-is ∙ bias_kept (next_state c) (next_bounds c)
      | else-next-self w ↦
          ap (λ z. z.0.0.bias) w.self-inside-inside-is ∙ bias_stays (old_state c) (next_state c) (old_bounds c) (next_bounds c) w.if-next-self.false
    ] in
    same_state (next_state c) _ _ (drift_kept (next_state c) (next_bounds c)) bias_is ∙ c.next-2.view_is ∙ c.next.view_is ∙ c.updated.ensures
    ∙ ap (updated (old_state c)) (to_z-of_z-difference greatest_depth c.args.value greatest c.requires)
    ∙ ap (λ s. updated s c.args.value) (ap (λ (i : Inside). i.sums) c.self-inside.view_is ∙ c.self.view_is)
