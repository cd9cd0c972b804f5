-- A recording whose sets were compared one after the other has the sets asked for.
use Rattle.std.proofs.Common.{◌≡◌, ℕ, ◌<◌, List, [], ◌∷◌, length, get_or, map, sym, ap, ◌∙◌, arith}
use Rattle.std.specs.Prelude.{None, slice_index, slice_index_or}
use Rattle.std.proofs.lemmas.List.{ext_get_or, get_or-map, length-map}
use Rattle.std.proofs.lemmas.List.Elements.{All-get_or}
use Rattle.ffv1_range.specs.InitialStates.{uncoded_states}
use Rattle.ffv1_range.specs.Setup.{RecordingValue, SetFields, IsSetFields, no_set}
use Rattle.ffv1_range.specs.Tables.{SetValue, halves_of, set_of}
use Rattle.ffv1_makings.specs.declared.spec.RecordingSpec.{RecordingSpec}
use Rattle.ffv1_makings.specs.declared.spec.SetSpec.{SetSpec}
use Rattle.ffv1_makings.specs.Asked.{asked_tables, asked_states, HasAskedSets}
use Rattle.ffv1_makings.specs.Inner.ReadBack.{IsRecorded, ShowsTables, ShowsSet}
use Rattle.ffv1_makings.proofs.TableSets.{length-halves_of, length-half_at}

some_item : {X : Type 0} (xs : List X) (k : ℕ) → k < length xs → X
some_item [] k h = absurd (omega arith)
some_item (x ∷ xs) k h = x

map_by_each : {X Y : Type 0} (f : X → Y) (ys : List Y) (xs : List X) (e : Y) → length ys ≡ length xs
    → ((k : ℕ) (d : X) → k < length xs → get_or ys k e ≡ f (get_or xs k d)) → ys ≡ map f xs
map_by_each f ys xs e size each =
    ext_get_or e ys (map f xs) (size ∙ sym (length-map xs f))
    (λ k lt.
    let below : k < length xs = omega (arith, size) in
    let d = some_item xs k below in
    each k d below ∙ sym (get_or-map f xs k d e below))

no_fields : SetFields
no_fields = record { tables = []; deltas = None }

length-sets : (r : RecordingValue) (h : IsRecorded r) → length r.setup.sets ≡ length h.is.fields.sets
length-sets r h = ap (λ v. length v.setup.sets) h.is.is ∙ length-map h.is.fields.sets (λ set. set_of set.tables)

length-states : (r : RecordingValue) → IsRecorded r → length r.states ≡ length r.setup.sets
length-states r h = ap (λ v. length v.states) h.is.is ∙ length-map h.is.fields.sets _ ∙ sym (length-sets r h)

set_is : (r : RecordingValue) (k : ℕ) (tables : List (List ℕ)) → IsRecorded r → k < length r.setup.sets → ShowsTables r k tables
    → get_or r.setup.sets k no_set ≡ set_of tables
set_is r k tables h lt has =
    let below : k < length h.is.fields.sets = omega (arith, length-sets r h) in
    let own = (get_or h.is.fields.sets k no_fields).tables in
    let five : length own ≡ 5 = (All-get_or IsSetFields h.is.fields.sets k no_fields below h.is.accepted.sets).tables.five in
    let is : get_or r.setup.sets k no_set ≡ set_of own =
    ap (λ v. get_or v.setup.sets k no_set) h.is.is ∙ get_or-map (λ set. set_of set.tables) h.is.fields.sets k no_fields no_set below in
    let halves : halves_of 1 own ≡ halves_of 1 tables =
    ext_get_or [] (halves_of 1 own) (halves_of 1 tables)
    (length-halves_of 1 own ∙ five ∙ sym has.is_set.five ∙ sym (length-halves_of 1 tables))
    (λ table inside.
    let few : table < 5 = omega (arith, length-halves_of 1 own, five) in
    ext_get_or 0 (get_or (halves_of 1 own) table []) (get_or (halves_of 1 tables) table [])
    (length-half_at own table (omega (arith, five)) ∙ sym (length-half_at tables table (omega (arith, has.is_set.five))))
    (λ index at.
    ap (λ set. slice_index (slice_index_or set.halves table []) index) (sym is)
    ∙ has.halves table few index (omega (arith, length-half_at own table (omega (arith, five)))))) in
    let contexts : (set_of own).contexts ≡ (set_of tables).contexts = ap (λ set. set.contexts) (sym is) ∙ has.contexts in
    let make : List (List ℕ) → ℕ → SetValue = λ halves contexts. record { halves = halves; contexts = contexts } in
    is ∙ ap (λ x. make x (set_of own).contexts) halves ∙ ap (make (halves_of 1 tables)) contexts

pub asked_sets : (r : RecordingValue) (spec : RecordingSpec) → IsRecorded r → length r.setup.sets ≡ length spec.sets.items
    → ((k : ℕ) (d : SetSpec) → k < length spec.sets.items → ShowsSet r spec.coder k (get_or spec.sets.items k d))
    → HasAskedSets r spec
asked_sets r spec h size each =
    record {
      are_sets = λ k d lt. (each k d lt).tables.is_set;
      sets =
          map_by_each (λ set. set_of (asked_tables set)) r.setup.sets spec.sets.items no_set size
          (λ k d lt. set_is r k (asked_tables (get_or spec.sets.items k d)) h (omega (arith, size)) (each k d lt).tables);
      states =
          map_by_each (λ set. asked_states spec.coder set.states.items) r.states spec.sets.items uncoded_states (length-states r h ∙ size)
          (λ k d lt. (each k d lt).states);
    }
