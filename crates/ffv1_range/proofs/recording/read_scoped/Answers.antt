use Rattle.std.proofs.Common.{◌≡◌, ℕ, List, ◌++◌, length, take, drop, Ok, refl, sym, ap, ◌∙◌, arith}
use Rattle.std.proofs.lemmas.List.{append-nil, drop_all, take_all}
use Rattle.std.proofs.lemmas.Result.{err_from_is_err_and}
use Rattle.ffv1_range.specs.SetupForms.{FrontValue, recording_of, all_granted}
use Rattle.ffv1_range.specs.Views.{set_values, states_values}
use Rattle.ffv1_range.specs.Inner.Views.{contexts_of, front_value}
use Rattle.ffv1_range.specs.declared.tables.TableSet.{TableSet}
use Rattle.ffv1_range.specs.declared.fault.SetupFault.TheVariants.{Range, Size}
use Rattle.ffv1_range.proofs.SetupSteps.{not_checked, width_refused, height_refused, start_refused, front_fails, none_granted, states_granted, memory_refused, sets_fail, states_fail, last_fails, all_read, contexts_of-values}
use Rattle.ffv1_range.proofs.SetupLaws.{returned, refused_by, read_in_version_3, refused_in, read_in}
use Rattle.ffv1_range.proofs.recording.read_scoped.Goals as goal
use Rattle.ffv1_range.proofs.recording.read_scoped.Goals.{then-not-is_size-via-then-not-is_size, then-not-is_size-via-else-not-is_size+then-not-is_size-2}

pub returns-in_err-content : goal.returns-in_err-content
returns-in_err-content c =
    let p = err_from_is_err_and c.from_residual.result c.from_residual.ensures.1 in
    rw (p.1, p.2)
    (refused_by c.args.config.now c.args.scope c.args.width c.args.height all_granted c.in_err-content.field-0.0
    (not_checked all_granted c.args.config.now c.args.scope c.args.width c.args.height c.in_err-content.field-0.0 c.in_err-content.ensures))

pub returns-then-not-is_size : goal.returns-then-not-is_size
returns-then-not-is_size c =
    refused_by c.args.config.now c.args.scope c.args.width c.args.height all_granted Size
    (elim c.then-not-is_size.branch [
      | then-not-is_size-via-then-not-is_size w ↦
          width_refused all_granted c.args.config.now c.in_ok-content.content.now c.args.scope c.args.width c.args.height c.in_ok-content.ensures
          (sym w.if-not-is_size.ensures)
      | then-not-is_size-via-else-not-is_size+then-not-is_size-2 w ↦
          height_refused all_granted c.args.config.now c.in_ok-content.content.now c.args.scope c.args.width c.args.height c.in_ok-content.ensures
          (sym w.if-not-is_size.ensures)
          (sym w.if-not-is_size-2.ensures)
    ])

pub returns-in_err-decoder : goal.returns-in_err-decoder
returns-in_err-decoder c =
    let p = err_from_is_err_and c.from_residual-in_err-decoder.result c.from_residual-in_err-decoder.ensures.1 in
    rw (p.1, p.2)
    (refused_by c.args.config.now c.args.scope c.args.width c.args.height all_granted (Range c.in_err-decoder.field-0.0)
    (start_refused all_granted c.args.config.now c.in_ok-content.content.now c.args.scope c.args.width c.args.height c.in_err-decoder.field-0.0 c.in_ok-content.ensures
    (sym c.if-not-is_size.ensures) (sym c.if-not-is_size-2.ensures) c.in_err-decoder.ensures))

pub returns-in_err-front : goal.returns-in_err-front
returns-in_err-front c =
    let p = err_from_is_err_and c.from_residual-in_err-front.result c.from_residual-in_err-front.ensures.1 in
    rw (p.1, p.2)
    (refused_in _ _ _ _ _ _ c.in_ok-content.ensures c.if-not-is_size.ensures c.if-not-is_size-2.ensures c.in_ok-decoder.ensures all_granted _
    (front_fails all_granted _ _ _ _ c.in_ok-decoder.decoder _ c.in_err-front.ensures.read))

pub returns-in_err-sets : goal.returns-in_err-sets
returns-in_err-sets c =
    let p = err_from_is_err_and c.from_residual-in_err-sets.result c.from_residual-in_err-sets.ensures.1 in
    rw (p.1, p.2)
    (refused_in _ _ _ _ _ _ c.in_ok-content.ensures c.if-not-is_size.ensures c.if-not-is_size-2.ensures c.in_ok-decoder.ensures none_granted _
    (memory_refused _ _ _ (front_value c.in_ok-front.front) _ _ _ _ c.in_ok-front.ensures.read))

pub returns-in_err-read_sets : goal.returns-in_err-read_sets
returns-in_err-read_sets c =
    let p = err_from_is_err_and c.from_residual-in_err-read_sets.result c.from_residual-in_err-read_sets.ensures.1 in
    rw (p.1, p.2)
    (refused_in _ _ _ _ _ _ c.in_ok-content.ensures c.if-not-is_size.ensures c.if-not-is_size-2.ensures c.in_ok-decoder.ensures all_granted _
    (sets_fail _ _ _ (front_value c.in_ok-front.front) _ _ _ _ _ c.in_ok-front.ensures.read c.in_err-read_sets.ensures.read))

pub returns-in_err-read_initial_states : goal.returns-in_err-read_initial_states
returns-in_err-read_initial_states c =
    let p = err_from_is_err_and c.from_residual-in_err-read_initial_states.result c.from_residual-in_err-read_initial_states.ensures.1 in
    rw (p.1, p.2)
    (refused_in _ _ _ _ _ _ c.in_ok-content.ensures c.if-not-is_size.ensures c.if-not-is_size-2.ensures c.in_ok-decoder.ensures
    (states_granted c.in_err-read_initial_states.ensures.refused.0) _
    (states_fail c.in_err-read_initial_states.ensures.refused.0 _ _ _ (front_value c.in_ok-front.front) (set_values c.read_sets.new.sets.items) _ _ _ _ _ _ _ _
    refl
    (ap contexts_of c.deref_mut.ensures.value ∙ contexts_of-values c.read_sets.new.sets.items)
    c.in_ok-front.ensures.read c.in_ok-read_sets.ensures.read c.in_err-read_initial_states.ensures.refused.1))

pub returns-in_err-ec : goal.returns-in_err-ec
returns-in_err-ec c =
    let p = err_from_is_err_and c.from_residual-in_err-ec.result c.from_residual-in_err-ec.ensures.1 in
    rw (p.1, p.2)
    (refused_in _ _ _ _ _ _ c.in_ok-content.ensures c.if-not-is_size.ensures c.if-not-is_size-2.ensures c.in_ok-decoder.ensures all_granted _
    (last_fails _ _ _ (front_value c.in_ok-front.front) (set_values c.read_sets.new.sets.items) _ _ _ _ _ _ _ _ _ _ _
    refl
    (ap contexts_of c.deref_mut.ensures.value ∙ contexts_of-values c.read_sets.new.sets.items)
    c.in_ok-front.ensures.read c.in_ok-read_sets.ensures.read c.in_ok-read_initial_states.ensures.read c.in_err-ec.ensures))

-- the vector after its slice was written
final_sets : (items new : List TableSet) (len : ℕ) → length new ≡ length items → len ≡ length items → take len (new ++ drop (length new) items) ≡ new
final_sets items new len h k =
    ap (λ z. take len (new ++ z)) (drop_all (length new) items (omega arith)) ∙ ap (take len) (append-nil new) ∙ take_all len new (omega arith)

-- the sets with their states as what was read
as_read : (front : FrontValue) (items new final : List TableSet) (last : ℕ × ℕ) (width height : ℕ) → final ≡ new → set_values new ≡ set_values items
    → recording_of front (set_values items) (states_values new) last width height
    ≡ recording_of front (set_values final) (states_values final) last width height
as_read front items new final last width height same kept =
    ap (λ z. recording_of front z (states_values new) last width height) (sym (ap set_values same ∙ kept))
    ∙ ap (λ z. recording_of front (set_values final) (states_values z) last width height) (sym same)

pub invariant_of-result : goal.invariant_of-result
invariant_of-result c =
    let items = c.read_sets.new.sets.items in
    let new = c.read_initial_states.new.sets in
    let read = all_read _ _ _ (front_value c.in_ok-front.front) (set_values items) _ _ _ _ _ _ _ _ _ _ _ _ _
    refl
    (ap contexts_of c.deref_mut.ensures.value ∙ contexts_of-values items)
    c.in_ok-front.ensures.read c.in_ok-read_sets.ensures.read c.in_ok-read_initial_states.ensures.read c.in_ok-ec.ensures in
    let long : length new ≡ length items = c.read_initial_states.auto.sets ∙ ap length c.deref_mut.ensures.value in
    let len : c.read_sets.new.sets.len ≡ length items = omega (arith, c.deref_mut.ensures.len, ap length c.deref_mut.ensures.value) in
    let final = final_sets items new c.read_sets.new.sets.len long len in
    let kept = c.in_ok-read_initial_states.ensures.kept ∙ ap set_values c.deref_mut.ensures.value in
    read_in_version_3 c.args.config.now c.args.scope c.args.width c.args.height _
    (read_in _ _ _ _ _ _ c.in_ok-content.ensures c.if-not-is_size.ensures c.if-not-is_size-2.ensures c.in_ok-decoder.ensures _ _ read.1
    ∙ ap (λ z. Ok z) (as_read (front_value c.in_ok-front.front) items new _ (c.in_ok-ec.ec, c.in_ok-ec.intra) c.args.width c.args.height final kept))

pub returns : goal.returns
returns c =
    let items = c.read_sets.new.sets.items in
    let new = c.read_initial_states.new.sets in
    let read = all_read _ _ _ (front_value c.in_ok-front.front) (set_values items) _ _ _ _ _ _ _ _ _ _ _ _ _
    refl
    (ap contexts_of c.deref_mut.ensures.value ∙ contexts_of-values items)
    c.in_ok-front.ensures.read c.in_ok-read_sets.ensures.read c.in_ok-read_initial_states.ensures.read c.in_ok-ec.ensures in
    let long : length new ≡ length items = c.read_initial_states.auto.sets ∙ ap length c.deref_mut.ensures.value in
    let len : c.read_sets.new.sets.len ≡ length items = omega (arith, c.deref_mut.ensures.len, ap length c.deref_mut.ensures.value) in
    let final = final_sets items new c.read_sets.new.sets.len long len in
    let kept = c.in_ok-read_initial_states.ensures.kept ∙ ap set_values c.deref_mut.ensures.value in
    returned c.args.config.now c.args.scope c.args.width c.args.height _
    (read_in _ _ _ _ _ _ c.in_ok-content.ensures c.if-not-is_size.ensures c.if-not-is_size-2.ensures c.in_ok-decoder.ensures _ _ read.1
    ∙ ap (λ z. Ok z) (as_read (front_value c.in_ok-front.front) items new _ (c.in_ok-ec.ec, c.in_ok-ec.intra) c.args.width c.args.height final kept))
