-- The entries of a set's tables come to less than the number of its contexts, and its states are as many.
use Rattle.std.proofs.Common.{◌≡◌, ℕ, zero, suc, ◌+◌, ◌-◌, ◌*◌, ◌<◌, ◌≤◌, Bool, true, false, cond, List, [], ◌∷◌, length, map, ap, ◌∙◌, arith, ⊎_elim, pos, neg_ℤ, nat_abs, get_or, eqb, ltb}
use Rattle.std.specs.Prelude.{nat_le, sum, slice_index, slice_index_or, ℤ, Option, Some, None, IfSome}
use Rattle.std.specs.List.{All}
use Rattle.std.proofs.Math.Nat.{mul-le-mul_left}
use Rattle.std.proofs.lemmas.Bool.{lt-leb, cases_lt}
use Rattle.std.proofs.lemmas.List.{get_or_past, length-map}
use Rattle.std.proofs.lemmas.List.FromFn.{get_or-map-range_with_len, length-map-range_with_len}
use Rattle.std.proofs.lemmas.List.Sums.{sum_by-cons}
use Rattle.ffv1_range.specs.Tables.{IsTable, IsTableSet, HasContexts, HaveContexts, AreScalesSmall, runs_ended, half_of, halves_of, table_entry, scale_after, scale_after_all, set_of}
use Rattle.ffv1_range.specs.Transitions.{delta_byte}
use Rattle.ffv1_range.specs.InitialStates.{uncoded_states, states_of}
use Rattle.ffv1_range.specs.Setup.{SetFields, IsSetFields, AreDeltas, no_set}
use Rattle.ffv1_range.proofs.DeltaSteps.{length-initial_states}

-- ---- the greatest entry of a table

ended_or : (b : Bool) (n m : ℕ) → n ≤ m → cond b 1 0 + n ≤ suc m
ended_or true n m h = omega arith
ended_or false n m h = omega arith

-- the last run ends after the entries
last_not_ended : (from : ℕ) (runs : List ℕ) (k : ℕ) → k < from + sum runs → 0 < length runs → runs_ended from runs k ≤ length runs - 1
last_not_ended from [] k h some = absurd (omega arith)
last_not_ended from (len ∷ []) k h some =
    let whole : sum (len ∷ []) ≡ len + 0 = sum_by-cons (λ x. x) len [] in
    let later : nat_le (from + len) k ≡ false = lt-leb (from + len) k (omega arith) in
    rw later (omega arith)
last_not_ended from (len ∷ next ∷ runs) k h some =
    let whole : sum (len ∷ next ∷ runs) ≡ len + sum (next ∷ runs) = sum_by-cons (λ x. x) len (next ∷ runs) in
    let beyond : runs_ended (from + len) (next ∷ runs) k ≤ length (next ∷ runs) - 1 = last_not_ended (from + len) (next ∷ runs) k (omega arith) (omega arith) in
    let more = ended_or (nat_le (from + len) k) (runs_ended (from + len) (next ∷ runs) k) (length (next ∷ runs) - 1) beyond in
    omega arith

some_runs : (runs : List ℕ) → IsTable runs → 0 < length runs
some_runs [] h = absurd (let whole : 0 ≡ 128 = h.whole in omega arith)
some_runs (len ∷ runs) h = omega arith

half_low : (scale : ℕ) (runs : List ℕ) (k : ℕ) → IsTable runs → slice_index (half_of scale runs) k ≤ scale * (length runs - 1)
half_low scale runs k h = ⊎_elim
    (λ inside.
    let is : slice_index (half_of scale runs) k ≡ scale * runs_ended 0 runs k =
    get_or-map-range_with_len (λ j. scale * runs_ended 0 runs j) 0 128 k k 0 inside (omega arith) in
    let few : runs_ended 0 runs k ≤ length runs - 1 = last_not_ended 0 runs k (let whole : sum runs ≡ 128 = h.whole in omega arith) (some_runs runs h) in
    let scaled : scale * runs_ended 0 runs k ≤ scale * (length runs - 1) = mul-le-mul_left scale few in
    omega (arith, is, scaled))
    (λ past.
    let size : length (half_of scale runs) ≡ 128 = length-map-range_with_len (λ j. scale * runs_ended 0 runs j) 0 128 in
    let none : slice_index (half_of scale runs) k ≡ 0 = get_or_past (half_of scale runs) k 0 (omega arith) in
    omega (arith, none))
    (cases_lt k 128)

entry_of_bound : (half : List ℕ) (bound k : ℕ) → ((j : ℕ) → slice_index half j ≤ bound) → nat_abs (table_entry half k) ≤ bound
entry_of_bound half bound k h = either (ltb k 128)
  where
    mirrored : (n : ℕ) → n ≤ bound → nat_abs (neg_ℤ (pos n)) ≤ bound
    mirrored zero less = omega arith
    mirrored (suc n) less = less

    either : (b : Bool) → nat_abs (cond b (pos (slice_index half k)) (neg_ℤ (pos (slice_index half (cond (eqb k 128) 127 (256 - k)))))) ≤ bound
    either true = h k
    either false = mirrored _ (h (cond (eqb k 128) 127 (256 - k)))

-- the greatest entries of some tables, the first at this scale
abbrev greatest_of : ℕ → List (List ℕ) → ℕ → ℕ
greatest_of scale [] table = 0
greatest_of scale (runs ∷ tables) zero = scale * (length runs - 1)
greatest_of scale (runs ∷ tables) (suc table) = greatest_of (scale_after scale runs) tables table

rest_are : (runs : List ℕ) (tables : List (List ℕ)) → All IsTable (runs ∷ tables) → All IsTable tables
rest_are runs tables h k d less = h (suc k) d (omega arith)

within_greatest : (scale : ℕ) (tables : List (List ℕ)) (table k : ℕ) → All IsTable tables
    → nat_abs (table_entry (get_or (halves_of scale tables) table []) k) ≤ greatest_of scale tables table
within_greatest scale [] table k h = entry_of_bound [] 0 k (λ j. omega arith)
within_greatest scale (runs ∷ tables) zero k h = entry_of_bound (half_of scale runs) (scale * (length runs - 1)) k
    (λ j. half_low scale runs j (h 0 [] (omega arith)))
within_greatest scale (runs ∷ tables) (suc table) k h = within_greatest (scale_after scale runs) tables table k (rest_are runs tables h)

-- ---- the scale

times_odd : (scale n m : ℕ) → n ≡ suc m → scale * (2 * n - 1) ≡ scale + 2 * (scale * m)
times_odd scale n m is =
    let odd : 2 * n - 1 ≡ 2 * m + 1 = omega arith in
    ap (λ k. scale * k) odd ∙ omega arith

scale_grows : (scale : ℕ) (runs : List ℕ) → IsTable runs → scale_after scale runs ≡ scale + 2 * (scale * (length runs - 1))
scale_grows scale runs h = let some = some_runs runs h in times_odd scale (length runs) (length runs - 1) (omega arith)

small_scale : (scale : ℕ) (tables : List (List ℕ)) → scale ≤ 65535 → AreScalesSmall scale tables → scale_after_all scale tables ≤ 65535
small_scale scale [] low h = low
small_scale scale (runs ∷ tables) low h = small_scale (scale_after scale runs) tables h.0 h.1

five_come_to : (tables : List (List ℕ)) → length tables ≡ 5 → All IsTable tables
    → scale_after_all 1 tables ≡ 1 + 2 * (greatest_of 1 tables 0 + greatest_of 1 tables 1 + greatest_of 1 tables 2 + greatest_of 1 tables 3
    + greatest_of 1 tables 4)
five_come_to (a ∷ b ∷ c ∷ d ∷ e ∷ []) five h =
    let s1 = scale_after 1 a in
    let s2 = scale_after s1 b in
    let s3 = scale_after s2 c in
    let s4 = scale_after s3 d in
    let p1 = scale_grows 1 a (h 0 [] (omega arith)) in
    let p2 = scale_grows s1 b (h 1 [] (omega arith)) in
    let p3 = scale_grows s2 c (h 2 [] (omega arith)) in
    let p4 = scale_grows s3 d (h 3 [] (omega arith)) in
    let p5 = scale_grows s4 e (h 4 [] (omega arith)) in
    omega (arith, p1, p2, p3, p4, p5)
five_come_to [] five h = absurd (omega arith)
five_come_to (a ∷ []) five h = absurd (omega arith)
five_come_to (a ∷ b ∷ []) five h = absurd (omega arith)
five_come_to (a ∷ b ∷ c ∷ []) five h = absurd (omega arith)
five_come_to (a ∷ b ∷ c ∷ d ∷ []) five h = absurd (omega arith)
five_come_to (a ∷ b ∷ c ∷ d ∷ e ∷ f ∷ more) five h = absurd (omega arith)

pub set_has_contexts : (tables : List (List ℕ)) → IsTableSet tables → HasContexts (set_of tables)
set_has_contexts tables h =
    let sum = five_come_to tables h.five h.tables in
    let small = small_scale 1 tables (omega arith) h.small in
    record {
      greatest = greatest_of 1 tables;
      within = λ table k. within_greatest 1 tables table k h.tables;
      enough = omega (arith, sum);
      few = omega (arith, small);
    }

all_have_contexts : (sets : List SetFields) → All IsSetFields sets → All HasContexts (map (λ set. set_of set.tables) sets)
all_have_contexts [] h k d less = absurd (omega arith)
all_have_contexts (set ∷ sets) h zero d less = set_has_contexts set.tables ((h 0 set (omega arith)).tables)
all_have_contexts (set ∷ sets) h (suc k) d less = all_have_contexts sets (λ j e below. h (suc j) e (omega arith)) k d (omega arith)

pub sets_have_contexts : (sets : List SetFields) → All IsSetFields sets → HaveContexts (map (λ set. set_of set.tables) sets)
unfolding HaveContexts
sets_have_contexts sets h = all_have_contexts sets h

-- ---- initial states

-- each set says of its states
pub states_count : (keeps : Bool) (sets : List SetFields) → length (map (λ set. states_of keeps set.deltas) sets) ≡ length sets
states_count keeps sets = length-map sets (λ set. states_of keeps set.deltas)

-- the states that a set has are those of its contexts
states_fit : (keeps : Bool) (contexts : ℕ) (deltas : Option (List (List ℤ))) → AreDeltas contexts deltas
    → IfSome (states_of keeps deltas).initial (λ states. length states ≡ contexts)
states_fit keeps contexts None h = tt
states_fit false contexts (Some deltas) h = tt
states_fit true contexts (Some deltas) h =
    length-initial_states (map (λ deltas. map delta_byte deltas) deltas) ∙ length-map deltas (λ deltas. map delta_byte deltas) ∙ h.0

pub states_of_contexts : (keeps : Bool) (sets : List SetFields) → All IsSetFields sets
    → (set : ℕ) → IfSome (slice_index_or (map (λ set. states_of keeps set.deltas) sets) set uncoded_states).initial
    (λ states. length states ≡ (slice_index_or (map (λ set. set_of set.tables) sets) set no_set).contexts)
states_of_contexts keeps [] h set = tt
states_of_contexts keeps (set ∷ sets) h zero = states_fit keeps (set_of set.tables).contexts set.deltas ((h 0 set (omega arith)).deltas)
states_of_contexts keeps (set ∷ sets) h (suc k) = states_of_contexts keeps sets (λ j e below. h (suc j) e (omega arith)) k
