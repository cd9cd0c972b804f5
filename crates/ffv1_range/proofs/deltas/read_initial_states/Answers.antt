use Rattle.std.proofs.Common.{◌≡◌, ◌+◌, ◌<◌, ◌≤◌, take, ℕ, Bool, true, List, [], ◌∷◌, ◌++◌, length, drop, get_or, set, Ok, refl, sym, ap, ◌∙◌, subst, arith}
use Rattle.std.specs.Prelude.{◌==◌, if◌then◌else◌}
use Rattle.std.proofs.lemmas.Bool.{eq-eqb, ne_eqb}
use Rattle.std.proofs.lemmas.List.{drop_more, drop_all, map-append, length-map, length-take-le, length-set, take_all, take_more_set, get_or-map}
use Rattle.std.proofs.Math.Seq.{map-set_same}
use Rattle.std.proofs.lemmas.Result.{err_from_is_err_and}
use Rattle.ffv1_range.specs.InitialStates.{StatesValue}
use Rattle.ffv1_range.specs.TableForms.{fresh_rows, sets_states, states_form}
use Rattle.ffv1_range.specs.Views.{set_value, set_values, states_value, states_values}
use Rattle.ffv1_range.specs.Setup.{no_set}
use Rattle.ffv1_range.specs.Forms.{ReadsForm}
use Rattle.ffv1_range.specs.declared.deltas.SetStates.{SetStates}
use Rattle.ffv1_range.specs.Inner.TableForms.{each_set}
use Rattle.ffv1_range.specs.Inner.Views.{contexts_of}
use Rattle.ffv1_range.specs.declared.tables.TableSet.{TableSet}
use Rattle.ffv1_range.specs.declared.fault.SetupFault.TheVariants.{Range}
use Rattle.ffv1_range.proofs.Forms.{Continues, continue_start, is_at_place, at_ok}
use Rattle.ffv1_range.proofs.DeltaSteps.{sets_turn, sets_fail, sets_end, states_fail, states_read}
use Rattle.ffv1_range.proofs.deltas.read_initial_states.Goals as goal

-- the contexts of the sets that are left, at the set of index i
contexts_left : (sets : List TableSet) (i : ℕ) (d : TableSet) → i < length sets
    → contexts_of (drop i sets) ≡ (get_or sets i d).contexts ∷ contexts_of (drop (i + 1) sets)
contexts_left sets i d h = ap contexts_of (drop_more sets i d h)

-- as many values as sets
values_size : (sets : List TableSet) (n : ℕ) → n ≤ length sets → length (states_values (take n sets)) ≡ n
values_size sets n h = length-map (take n sets) (λ set. states_value set.states) ∙ length-take-le n sets h

-- sets of the same values have the same contexts
contexts_here : (all sets : List TableSet) (i : ℕ) (d : TableSet) → i < length all → set_values sets ≡ set_values all → length sets ≡ length all
    → contexts_of (drop i all) ≡ (get_or sets i d).contexts ∷ contexts_of (drop (i + 1) all)
contexts_here all sets i d h same size =
    let here = get_or-map set_value all i d no_set h in
    let there = get_or-map set_value sets i d no_set (omega arith) in
    contexts_left all i d h
    ∙ ap (λ z. z ∷ contexts_of (drop (i + 1) all))
    (sym (ap (λ z. z.contexts) here) ∙ sym (ap (λ z. (get_or z i no_set).contexts) same) ∙ ap (λ z. z.contexts) there)

-- states are no part of a set's value
values_kept : (sets : List TableSet) (i : ℕ) (d : TableSet) (states : SetStates) → i < length sets
    → set_values (set sets i (record { halves = (get_or sets i d).halves; contexts = (get_or sets i d).contexts; states = states })) ≡ set_values sets
values_kept sets i d states h =
    map-set_same set_value sets i (record { halves = (get_or sets i d).halves; contexts = (get_or sets i d).contexts; states = states }) d refl

-- memory is refused for one set at most
abbrev granted_but : ℕ → Bool → ℕ → Bool
granted_but refused one set = if set == refused then one else true

but_before : (n : ℕ) (one : Bool) (set : ℕ) → set < n → granted_but n one set ≡ true
but_before n one set h = ap (λ b. if b then one else true) (ne_eqb set n (omega arith))

but_at : (n : ℕ) (one : Bool) (set : ℕ) → set ≡ n → granted_but n one set ≡ one
but_at n one set h = ap (λ b. if b then one else true) (eq-eqb set n h)

pub loop-index-init : goal.loop-index-init
loop-index-init c =
    record {
      going = λ granted before.
          continue_start Range (sets_states granted c.args.keeps (contexts_of c.args.sets.now) []) c.args.decoder.now (c.args.record_row.now, fresh_rows);
      alive = is_at_place c.args.decoder.now c.requires;
      same = refl;
      size = refl;
    }

pub returns-in_err-coded : goal.returns-in_err-coded
returns-in_err-coded c =
    let p = err_from_is_err_and c.from_residual.result c.from_residual.ensures.1 in
    let n = c.loop-index.index in
    let one = c.in_err-coded.ensures.refused.0 in
    let sets = c.loop-index.sets in
    rw (p.1, p.2)
    (record {
      read = tt;
      kept = tt;
      refused = (
        granted_but n one,
        states_fail (granted_but n one) c.args.keeps (contexts_of c.args.sets.now) c.in_err-coded.field-0.0 c.args.decoder.now c.args.record_row.now
            (sets_fail (granted_but n one) c.args.keeps (sets_states (granted_but n one) c.args.keeps (contexts_of c.args.sets.now) [])
            (contexts_of (drop n c.args.sets.now)) (contexts_of (drop (n + 1) c.args.sets.now)) _ (states_values (take n sets)) one
            c.in_err-coded.field-0.0 c.args.decoder.now c.loop-index.decoder (c.args.record_row.now, fresh_rows) (c.loop-index.record_row, c.loop-index.rows)
            (contexts_here c.args.sets.now sets n _ c.loop-index-test.true c.loop-index.invariant.same c.loop-index.invariant.size)
            (but_at n one (length (states_values (take n sets))) (values_size sets n (omega arith)))
            (c.loop-index.invariant.going (granted_but n one) (but_before n one)) c.in_err-coded.ensures.refused.1),
      );
    })

pub loop-index-preserved : goal.loop-index-preserved
loop-index-preserved c =
    let n = c.loop-index.index in
    let sets = c.loop-index.sets in
    let at : TableSet = get_or sets n c.index-sets-index-in-loop-index.result in
    let with : TableSet = record { halves = at.halves; contexts = at.contexts; states = c.in_ok-coded.coded } in
    let done : List StatesValue = states_values (take n sets) in
    let more : done ++ states_value c.in_ok-coded.coded ∷ [] ≡ states_values (take (n + 1) (set sets n with)) =
    sym (ap states_values (take_more_set sets n with (omega arith)) ∙ map-append (λ set. states_value set.states) (take n sets) (with ∷ [])) in
    record {
      going = λ granted before.
          subst (λ z. Continues Range (sets_states granted c.args.keeps (contexts_of c.args.sets.now) []) c.args.decoder.now (c.args.record_row.now, fresh_rows)
          (sets_states granted c.args.keeps (contexts_of (drop (n + 1) c.args.sets.now)) z) c.read_set_states.new.decoder
          (c.read_set_states.new.record_row, c.read_set_states.new.rows)) more
          (sets_turn granted c.args.keeps (sets_states granted c.args.keeps (contexts_of c.args.sets.now) [])
          (contexts_of (drop n c.args.sets.now)) (contexts_of (drop (n + 1) c.args.sets.now)) _ done (states_value c.in_ok-coded.coded)
          c.args.decoder.now c.loop-index.decoder c.read_set_states.new.decoder (c.args.record_row.now, fresh_rows)
          (c.loop-index.record_row, c.loop-index.rows)
          (c.read_set_states.new.record_row, c.read_set_states.new.rows)
          (contexts_here c.args.sets.now sets n _ c.loop-index-test.true c.loop-index.invariant.same c.loop-index.invariant.size)
          (ap granted (values_size sets n (omega arith)) ∙ before n (omega arith))
          (c.loop-index.invariant.going granted (λ set h. before set (omega arith))) c.in_ok-coded.ensures.read);
      alive = (c.in_ok-coded.ensures.read.0, at_ok c.loop-index.decoder c.read_set_states.new.decoder c.in_ok-coded.ensures.read.0 c.in_ok-coded.ensures.read.2);
      same = values_kept sets n c.index-sets-index-in-loop-index.result c.in_ok-coded.coded (omega arith) ∙ c.loop-index.invariant.same;
      size = length-set sets n with ∙ c.loop-index.invariant.size;
    }

pub returns : goal.returns
returns c =
    let n = c.loop-index.index in
    let sets = c.loop-index.sets in
    let whole = take_all n sets (omega (arith, c.loop-index.invariant.size)) in
    record {
      read =
          subst (λ z. ReadsForm Range (states_form each_set c.args.keeps (contexts_of c.args.sets.now)) c.args.decoder.now c.args.record_row.now
          (Ok (states_values z)) c.loop-index.decoder c.loop-index.record_row) whole
          (states_read each_set c.args.keeps (contexts_of c.args.sets.now) (states_values (take n sets)) c.args.decoder.now c.loop-index.decoder
          c.args.record_row.now c.loop-index.record_row c.loop-index.rows
          (sets_end each_set c.args.keeps (sets_states each_set c.args.keeps (contexts_of c.args.sets.now) []) (contexts_of (drop n c.args.sets.now))
          (states_values (take n sets)) c.args.decoder.now c.loop-index.decoder
          (c.args.record_row.now, fresh_rows) (c.loop-index.record_row, c.loop-index.rows) (ap contexts_of (drop_all n c.args.sets.now c.loop-index-test.false))
          c.loop-index.invariant.alive (c.loop-index.invariant.going each_set (λ set h. refl))));
      kept = c.loop-index.invariant.same;
      refused = tt;
    }
