-- Deltas are read where they are coded, and nowhere else.
use Rattle.std.proofs.Common.{lit≤, ◌≡◌, ◌≢◌, ℕ, suc, zero, ◌+◌, ◌<◌, Bool, true, false, List, [], ◌∷◌, ◌++◌, length, map, set, append-nil, append_assoc, Result, Ok, Option, Some, None, refl, sym, ap, ◌∙◌, subst, arith, get_or-set_same, get_or-set_other, inl, inr}
use Rattle.std.proofs.lemmas.Bool.{cases_eq}
use Rattle.std.specs.Prelude.{ℤ, slice_index_or, unsigned_abs, if◌then◌else◌}
use Rattle.std.specs.List.{All, flat_map}
use Rattle.std.proofs.lemmas.List.{length-set}
use Rattle.std.proofs.lemmas.List.Elements.{All-cons, All-nil, All-head, All-tail}
use Rattle.ffv1_range.specs.Coding.{Mode, Coder, PlaceOf, Place, IsRangeRun}
use Rattle.ffv1_range.specs.Rows.{Rows, with_row, RowBits, IsRowsRun}
use Rattle.ffv1_range.specs.Forms.{Form, giving, on, lifted, lifted_result}
use Rattle.ffv1_range.specs.Transitions.{delta_byte}
use Rattle.ffv1_range.specs.InitialStates.{StatesValue, uncoded_states, coded_states, states_of}
use Rattle.ffv1_range.specs.Reading.{signed_symbol_form}
use Rattle.ffv1_range.specs.Symbols.{signed_symbol_bits}
use Rattle.ffv1_range.specs.Fields.{flag}
use Rattle.ffv1_range.specs.Tables.{IsTableSet, set_of}
use Rattle.ffv1_range.specs.TableForms.{TwoRows, record_row, with_record_row, delta_rows, with_delta_rows, delta_form, context_deltas, contexts_deltas, kept_states, set_states, sets_states}
use Rattle.ffv1_range.specs.Setup.{bit, fields_bits, context_row_bits, deltas_row_bits, IsSymbol, AreDeltas, SetFields, IsSetFields}
use Rattle.ffv1_range.specs.declared.fault.SetupFault.{SetupFault}
use Rattle.ffv1_range.specs.declared.fault.SetupFault.TheVariants.{Range}
use Rattle.ffv1_range.proofs.Forms.{place_of, bind_ok}
use Rattle.ffv1_range.proofs.Spelling.{signed_symbol_is_spelled, bind_is_ok, same_ok}
use Rattle.ffv1_range.proofs.FieldRuns.{lifted_ok, flag-found, flag-run}
use Rattle.ffv1_range.proofs.RowRuns.{rows_append, rows_split, with_row-same, with_row-other, one_row_bits}
use Rattle.ffv1_range.proofs.DeltaSteps.{context_rest, contexts_rest, sets_rest}

-- ---- the record's row and the rows of its deltas, among all rows

pub record AreRowsOf (rows : Rows) (two : TwoRows) : Type 0 where
  pub size : length two.1 ≡ 32
  pub main : rows 0 ≡ two.0
  pub deltas : (k : ℕ) → k < 32 → rows (1 + k) ≡ slice_index_or two.1 k []

-- From p to q these bits of rows are coded, whatever the other rows are.
abbrev pub AreCoded : Mode → List RowBits → PlaceOf TwoRows → PlaceOf TwoRows → Type 0
AreCoded mode rows_bits p q =
    (rows : Rows) → AreRowsOf rows p.states → (after : Rows) × IsRowsRun mode (place_of p.coder rows) rows_bits (place_of q.coder after)
    × AreRowsOf after q.states

nothing_coded : (mode : Mode) (p : PlaceOf TwoRows) → AreCoded mode [] p p
unfolding IsRowsRun
nothing_coded mode p rows h = (rows, refl, h)

both_coded : (mode : Mode) (xs ys : List RowBits) (p m q : PlaceOf TwoRows) → AreCoded mode xs p m → AreCoded mode ys m q → AreCoded mode (xs ++ ys) p q
both_coded mode xs ys p m q h k rows r =
    let a = h rows r in
    let b = k a.0 a.2 in
    (b.0, rows_append mode xs ys (place_of p.coder rows) (place_of m.coder a.0) (place_of q.coder b.0) a.1 b.1, b.2)

-- a new row of number k among the deltas
pub with_delta_row : (rows : Rows) (main row : List ℕ) (deltas : List (List ℕ)) (k : ℕ) → k < 32 → AreRowsOf rows (main, deltas)
    → AreRowsOf (with_row rows (1 + k) row) (main, set deltas k row)
with_delta_row rows main row deltas k h r =
    let here : k < length deltas = omega (arith, r.size) in
    record {
      size = length-set deltas k row ∙ r.size;
      main = (let apart : 0 ≢ 1 + k = omega arith in with_row-other rows (1 + k) 0 row apart) ∙ r.main;
      deltas = λ j l. elim (cases_eq j k) [
        | inl same ↦
            ap (λ z. with_row rows (1 + k) row (1 + z)) same ∙ with_row-same rows (1 + k) row
            ∙ sym (get_or-set_same deltas k row [] here) ∙ ap (λ z. slice_index_or (set deltas k row) z []) (sym same)
        | inr other ↦
            (let apart : 1 + j ≢ 1 + k = λ e. other (omega arith) in with_row-other rows (1 + k) (1 + j) row apart)
            ∙ r.deltas j l ∙ sym (get_or-set_other deltas k j row [] other)
      ];
    }

-- a new row of the record
pub with_main_row : (rows : Rows) (main row : List ℕ) (deltas : List (List ℕ)) → AreRowsOf rows (main, deltas) → AreRowsOf (with_row rows 0 row) (row, deltas)
with_main_row rows main row deltas r =
    record {
      size = r.size;
      main = with_row-same rows 0 row;
      deltas = λ j l. (let apart : 1 + j ≢ 0 = omega arith in with_row-other rows 0 (1 + j) row apart) ∙ r.deltas j l;
    }

-- ---- one delta

-- a delta that was read, and where its row was put
pub record DeltaAt (mode : Mode) (k : ℕ) (c : Coder) (deltas : List (List ℕ)) (y : ℤ × PlaceOf (List (List ℕ))) : Type 0 where
  pub small : IsSymbol (unsigned_abs y.0)
  pub coded : (main : List ℕ) → AreCoded mode ((1 + k, signed_symbol_bits y.0) ∷ []) (place_of c (main, deltas)) (place_of y.1.coder (main, y.1.states))

delta-found : (mode : Mode) (k : ℕ) (c : Coder) (deltas : List (List ℕ)) (y : ℤ × PlaceOf (List (List ℕ))) → k < 32
    → delta_form k mode (place_of c deltas) ≡ Ok y
    → DeltaAt mode k c deltas y
delta-found mode k c deltas y h g =
    let row : List ℕ = slice_index_or deltas k [] in
    let x = bind_is_ok (lifted Range signed_symbol_form mode (place_of c row)) (λ x. Ok (x.0, place_of x.1.coder (set deltas k x.1.states))) y g in
    let spelled = (signed_symbol_is_spelled 32 (lit≤ tt) mode (place_of c row) x.0.1 x.0.0).0 (lifted_ok Range (signed_symbol_form mode (place_of c row)) x.0 x.1) in
    let pair = same_ok (x.0.0, place_of x.0.1.coder (set deltas k x.0.1.states)) y x.2 in
    subst (λ z. DeltaAt mode k c deltas z) pair
    (record {
      small = spelled.0;
      coded = λ main rows r. (
        with_row rows (1 + k) x.0.1.states,
        one_row_bits mode c rows (1 + k) row (signed_symbol_bits x.0.0) x.0.1 (r.deltas k h) spelled.1,
        with_delta_row rows main x.0.1.states deltas k h r,
      );
    })

delta-run : (mode : Mode) (k : ℕ) (delta : ℤ) (c : Coder) (deltas : List (List ℕ)) (q : Place) → IsSymbol (unsigned_abs delta)
    → IsRangeRun mode (place_of c (slice_index_or deltas k [])) (signed_symbol_bits delta) q
    → delta_form k mode (place_of c deltas) ≡ Ok (delta, place_of q.coder (set deltas k q.states))
delta-run mode k delta c deltas q small run =
    let row : List ℕ = slice_index_or deltas k [] in
    bind_ok (lifted Range signed_symbol_form mode (place_of c row)) (λ x. Ok (x.0, place_of x.1.coder (set deltas k x.1.states))) (delta, q)
    (ap (lifted_result Range) ((signed_symbol_is_spelled 32 (lit≤ tt) mode (place_of c row) q delta).1 (small, run)))

-- ---- the deltas of a context

abbrev IsDelta : ℤ → Type 0
IsDelta delta = IsSymbol (unsigned_abs delta)

pub record ContextAt (mode : Mode) (n k : ℕ) (done : List ℕ) (c : Coder) (deltas : List (List ℕ)) (y : List ℕ × PlaceOf (List (List ℕ))) : Type 0 where
  pub values : List ℤ
  pub size : length values ≡ n
  pub small : All (λ delta. IsSymbol (unsigned_abs delta)) values
  pub is : y.0 ≡ done ++ map delta_byte values
  pub coded : (main : List ℕ) → AreCoded mode (context_row_bits k values) (place_of c (main, deltas)) (place_of y.1.coder (main, y.1.states))

-- where a form gave its place back, no bits are coded up to what it gave
none_coded : {A : Type 0} (mode : Mode) (c : Coder) (deltas : List (List ℕ)) (done : A) (y : A × PlaceOf (List (List ℕ))) → (done, place_of c deltas) ≡ y
    → (main : List ℕ) → AreCoded mode [] (place_of c (main, deltas)) (place_of y.1.coder (main, y.1.states))
none_coded mode c deltas done y h main =
    subst (λ z. AreCoded mode [] (place_of c (main, deltas)) (place_of z.coder (main, z.states))) (ap (λ z. z.1) h)
    (nothing_coded mode (place_of c (main, deltas)))

context-found : (mode : Mode) (n k : ℕ) (done : List ℕ) (c : Coder) (deltas : List (List ℕ)) (y : List ℕ × PlaceOf (List (List ℕ))) → k + n ≡ 32
    → context_deltas n k done mode (place_of c deltas) ≡ Ok y → ContextAt mode n k done c deltas y
unfolding context_deltas context_rest context_row_bits
context-found mode zero k done c deltas y e h =
    let pair = same_ok (done, place_of c deltas) y h in
    record {
      values = [];
      size = refl;
      small = All-nil IsDelta;
      is = sym (ap (λ z. z.0) pair) ∙ sym (append-nil done);
      coded = none_coded mode c deltas done y pair;
    }
context-found mode (suc n) k done c deltas y e h =
    let x = bind_is_ok (delta_form k mode (place_of c deltas)) (λ x. context_rest n k done x.0 mode x.1) y h in
    let d = delta-found mode k c deltas x.0 (omega arith) x.1 in
    let r = context-found mode n (k + 1) (done ++ delta_byte x.0.0 ∷ []) x.0.1.coder x.0.1.states y (omega arith) x.2 in
    record {
      values = x.0.0 ∷ r.values;
      size = ap suc r.size;
      small = All-cons IsDelta x.0.0 r.values d.small r.small;
      is = r.is ∙ append_assoc done (delta_byte x.0.0 ∷ []) (map delta_byte r.values);
      coded = λ main.
          both_coded mode ((1 + k, signed_symbol_bits x.0.0) ∷ []) (context_row_bits (k + 1) r.values) (place_of c (main, deltas))
          (place_of x.0.1.coder (main, x.0.1.states))
          (place_of y.1.coder (main, y.1.states)) (d.coded main) (r.coded main);
    }

-- What is read up to z, where its bits of rows are coded.
pub record DeltasRead {A : Type 0} (mode : Mode) (form : Form (List (List ℕ)) A SetupFault) (value : A) (c : Coder) (main : List ℕ)
    (deltas : List (List ℕ)) (z : PlaceOf Rows) : Type 0 where
  pub after : List (List ℕ)
  pub read : form mode (place_of c deltas) ≡ Ok (value, place_of z.coder after)
  pub matches : AreRowsOf z.states (main, after)

-- where no bits are coded, a form that ends at once reads up to there
nothing_read : {A : Type 0} (mode : Mode) (form : Form (List (List ℕ)) A SetupFault) (value : A) (c : Coder) (main : List ℕ) (deltas : List (List ℕ))
    (rows : Rows) (z : PlaceOf Rows) → form mode (place_of c deltas) ≡ Ok (value, place_of c deltas) → AreRowsOf rows (main, deltas) → place_of c rows ≡ z
    → DeltasRead mode form value c main deltas z
nothing_read mode form value c main deltas rows z ends r same =
    record {
      after = deltas;
      read = ends ∙ ap (λ w. Ok (value, place_of w.coder deltas)) same;
      matches = subst (λ w. AreRowsOf w.states (main, deltas)) same r;
    }

context-run : (mode : Mode) (n k : ℕ) (done : List ℕ) (values : List ℤ) (c : Coder) (main : List ℕ) (deltas : List (List ℕ)) (rows : Rows) (z : PlaceOf Rows)
    → length values ≡ n → k + n ≡ 32
    → All (λ delta. IsSymbol (unsigned_abs delta)) values → AreRowsOf rows (main, deltas) → IsRowsRun mode (place_of c rows) (context_row_bits k values) z
    → DeltasRead mode (context_deltas n k done) (done ++ map delta_byte values) c main deltas z
unfolding context_deltas context_rest context_row_bits IsRowsRun
context-run mode n k done [] c main deltas rows z size e small r run =
    nothing_read mode (context_deltas n k done) (done ++ []) c main deltas rows z
    (ap (λ m. context_deltas m k done mode (place_of c deltas)) (sym size) ∙ ap (λ w. Ok (w, place_of c deltas)) (sym (append-nil done))) r run
context-run mode zero k done (delta ∷ values) c main deltas rows z size e small r run = absurd (omega (arith, size))
context-run mode (suc n) k done (delta ∷ values) c main deltas rows z size e small r run =
    let within : k < 32 = omega arith in
    let here = subst (λ w. IsRangeRun mode (place_of c w) (signed_symbol_bits delta) run.0) (r.deltas k within) run.1 in
    let rest = context-run mode n (k + 1) (done ++ delta_byte delta ∷ []) values run.0.coder main (set deltas k run.0.states)
    (with_row rows (1 + k) run.0.states) z (omega (arith, size))
    (omega arith)
    (All-tail IsDelta delta values small) (with_delta_row rows main run.0.states deltas k within r) run.2 in
    record {
      after = rest.after;
      read =
          bind_ok (delta_form k mode (place_of c deltas)) (λ x. context_rest n k done x.0 mode x.1)
          (delta, place_of run.0.coder (set deltas k run.0.states))
          (delta-run mode k delta c deltas run.0 (All-head IsDelta delta values small) here)
          ∙ rest.read
          ∙ ap (λ w. Ok (w, place_of z.coder rest.after)) (append_assoc done (delta_byte delta ∷ []) (map delta_byte values));
      matches = rest.matches;
    }

-- ---- the deltas of a set

abbrev pub IsContext : List ℤ → Type 0
IsContext context = (length context ≡ 32) × All (λ delta. IsSymbol (unsigned_abs delta)) context

-- deltas of contexts, modulo 256
abbrev pub context_bytes : List (List ℤ) → List (List ℕ)
context_bytes contexts = map (λ deltas. map delta_byte deltas) contexts

pub record ContextsAt (mode : Mode) (n : ℕ) (done : List (List ℕ)) (c : Coder) (deltas : List (List ℕ))
    (y : List (List ℕ) × PlaceOf (List (List ℕ))) : Type 0 where
  pub values : List (List ℤ)
  pub size : length values ≡ n
  pub each : All IsContext values
  pub is : y.0 ≡ done ++ context_bytes values
  pub coded : (main : List ℕ) → AreCoded mode (flat_map (context_row_bits 0) values) (place_of c (main, deltas)) (place_of y.1.coder (main, y.1.states))

contexts-found : (mode : Mode) (n : ℕ) (done : List (List ℕ)) (c : Coder) (deltas : List (List ℕ)) (y : List (List ℕ) × PlaceOf (List (List ℕ)))
    → contexts_deltas n done mode (place_of c deltas) ≡ Ok y → ContextsAt mode n done c deltas y
unfolding contexts_deltas contexts_rest
contexts-found mode zero done c deltas y h =
    let pair = same_ok (done, place_of c deltas) y h in
    record {
      values = [];
      size = refl;
      each = All-nil IsContext;
      is = sym (ap (λ z. z.0) pair) ∙ sym (append-nil done);
      coded = none_coded mode c deltas done y pair;
    }
contexts-found mode (suc n) done c deltas y h =
    let x = bind_is_ok (context_deltas 32 0 [] mode (place_of c deltas)) (λ x. contexts_rest n done x.0 mode x.1) y h in
    let d = context-found mode 32 0 [] c deltas x.0 refl x.1 in
    let r = contexts-found mode n (done ++ x.0.0 ∷ []) x.0.1.coder x.0.1.states y x.2 in
    record {
      values = d.values ∷ r.values;
      size = ap suc r.size;
      each = All-cons IsContext d.values r.values (d.size, d.small) r.each;
      is = r.is ∙ append_assoc done (x.0.0 ∷ []) (context_bytes r.values) ∙ ap (λ w. done ++ w ∷ context_bytes r.values) d.is;
      coded = λ main.
          both_coded mode (context_row_bits 0 d.values) (flat_map (context_row_bits 0) r.values) (place_of c (main, deltas))
          (place_of x.0.1.coder (main, x.0.1.states))
          (place_of y.1.coder (main, y.1.states)) (d.coded main) (r.coded main);
    }

contexts-run : (mode : Mode) (n : ℕ) (done : List (List ℕ)) (values : List (List ℤ)) (c : Coder) (main : List ℕ) (deltas : List (List ℕ)) (rows : Rows)
    (z : PlaceOf Rows)
    → length values ≡ n
    → All IsContext values → AreRowsOf rows (main, deltas) → IsRowsRun mode (place_of c rows) (flat_map (context_row_bits 0) values) z
    → DeltasRead mode (contexts_deltas n done) (done ++ context_bytes values) c main deltas z
unfolding contexts_deltas contexts_rest IsRowsRun
contexts-run mode n done [] c main deltas rows z size each r run =
    nothing_read mode (contexts_deltas n done) (done ++ []) c main deltas rows z
    (ap (λ m. contexts_deltas m done mode (place_of c deltas)) (sym size) ∙ ap (λ w. Ok (w, place_of c deltas)) (sym (append-nil done))) r run
contexts-run mode zero done (values ∷ others) c main deltas rows z size each r run = absurd (omega (arith, size))
contexts-run mode (suc n) done (values ∷ others) c main deltas rows z size each r run =
    let s = rows_split mode (context_row_bits 0 values) (flat_map (context_row_bits 0) others) (place_of c rows) z run in
    let head : IsContext values = All-head IsContext values others each in
    let first = context-run mode 32 0 [] values c main deltas rows s.0 head.0 refl head.1 r s.1 in
    let rest = contexts-run mode n (done ++ map delta_byte values ∷ []) others s.0.coder main first.after s.0.states z (omega (arith, size))
    (All-tail IsContext values others each) first.matches s.2 in
    record {
      after = rest.after;
      read = bind_ok (context_deltas 32 0 [] mode (place_of c deltas))
          (λ x. contexts_rest n done x.0 mode x.1) (map delta_byte values, place_of s.0.coder first.after) first.read ∙ rest.read
          ∙ ap (λ w. Ok (w, place_of z.coder rest.after)) (append_assoc done (map delta_byte values ∷ []) (context_bytes others));
      matches = rest.matches;
    }

-- states_coded, at the record's row
flag_coded : (mode : Mode) (c : Coder) (main : List ℕ) (deltas : List (List ℕ)) (b : Bool) (q : Place)
    → IsRangeRun mode (place_of c main) (fields_bits (bit b ∷ [])) q
    → AreCoded mode ((0, fields_bits (bit b ∷ [])) ∷ []) (place_of c (main, deltas)) (place_of q.coder (q.states, deltas))
flag_coded mode c main deltas b q run rows r =
    (with_row rows 0 q.states, one_row_bits mode c rows 0 main (fields_bits (bit b ∷ [])) q r.main run, with_main_row rows main q.states deltas r)

-- reading states_coded at the record's row
abbrev coded_flag_at : Mode → PlaceOf TwoRows → Result (Bool × PlaceOf TwoRows) SetupFault
coded_flag_at mode p = on record_row with_record_row flag mode p

-- what follows states_coded, where memory is granted
coded_rest : Bool → ℕ → Bool → Form TwoRows StatesValue SetupFault
coded_rest keeps contexts coded = if coded then kept_states true keeps contexts else giving uncoded_states

deltas_given : Bool → List (List ℕ) → Form TwoRows StatesValue SetupFault
deltas_given keeps deltas = giving (coded_states keeps deltas)

-- where states_coded leads
SetStatesAt : Mode → Bool → ℕ → PlaceOf TwoRows → StatesValue × PlaceOf TwoRows → Type 0
SetStatesAt mode keeps contexts p y =
    (deltas : Option (List (List ℤ))) × AreDeltas contexts deltas × (y.0 ≡ states_of keeps deltas) × AreCoded mode (deltas_row_bits deltas) p y.1

set_rest_found : (mode : Mode) (keeps : Bool) (contexts : ℕ) (c : Coder) (main : List ℕ) (deltas : List (List ℕ)) (b : Bool) (q : Place)
    (y : StatesValue × PlaceOf TwoRows)
    → IsRangeRun mode (place_of c main) (fields_bits (bit b ∷ [])) q → coded_rest keeps contexts b mode (place_of q.coder (q.states, deltas)) ≡ Ok y
    → SetStatesAt mode keeps contexts (place_of c (main, deltas)) y
unfolding coded_rest deltas_given SetStatesAt
set_rest_found mode keeps contexts c main deltas false q y run h =
    let pair = same_ok (uncoded_states, place_of q.coder (q.states, deltas)) y h in (
      None,
      tt,
      sym (ap (λ z. z.0) pair),
      subst (λ z. AreCoded mode (deltas_row_bits None) (place_of c (main, deltas)) z) (ap (λ z. z.1) pair)
          (flag_coded mode c main deltas false q run),
    )
set_rest_found mode keeps contexts c main deltas true q y run h =
    let p : PlaceOf TwoRows = place_of q.coder (q.states, deltas) in
    let all = bind_is_ok (on delta_rows with_delta_rows (contexts_deltas contexts []) mode p) (λ x. deltas_given keeps x.0 mode x.1) y h in
    let x = bind_is_ok (contexts_deltas contexts [] mode (place_of q.coder deltas)) (λ x. Ok (x.0, place_of x.1.coder (q.states, x.1.states))) all.0 all.1 in
    let r = contexts-found mode contexts [] q.coder deltas x.0 x.1 in
    let first = same_ok (x.0.0, place_of x.0.1.coder (q.states, x.0.1.states)) all.0 x.2 in
    let pair = same_ok (coded_states keeps all.0.0, all.0.1) y all.2 in (
      Some r.values,
      (r.size, r.each),
      sym (ap (λ z. z.0) pair) ∙ ap (λ z. coded_states keeps z.0) (sym first) ∙ ap (λ z. coded_states keeps z) r.is,
      subst (λ z. AreCoded mode (deltas_row_bits (Some r.values)) (place_of c (main, deltas)) z) (ap (λ z. z.1) first ∙ ap (λ z. z.1) pair)
          (both_coded mode ((0, fields_bits (bit true ∷ [])) ∷ []) (flat_map (context_row_bits 0) r.values) (place_of c (main, deltas))
          (place_of q.coder (q.states, deltas))
          (place_of x.0.1.coder (q.states, x.0.1.states)) (flag_coded mode c main deltas true q run) (r.coded q.states)),
    )

set-states-found : (mode : Mode) (keeps : Bool) (contexts : ℕ) (p : PlaceOf TwoRows) (y : StatesValue × PlaceOf TwoRows)
    → set_states true keeps contexts mode p ≡ Ok y
    → SetStatesAt mode keeps contexts p y
unfolding coded_rest
set-states-found mode keeps contexts p y h =
    let row : Place = place_of p.coder p.states.0 in
    let x = bind_is_ok (coded_flag_at mode p) (λ x. coded_rest keeps contexts x.0 mode x.1) y h in
    let f = bind_is_ok (flag mode row) (λ x. Ok (x.0, place_of x.1.coder (x.1.states, p.states.1))) x.0 x.1 in
    let pair = same_ok (f.0.0, place_of f.0.1.coder (f.0.1.states, p.states.1)) x.0 f.2 in
    set_rest_found mode keeps contexts p.coder p.states.0 p.states.1 f.0.0 f.0.1 y (flag-found mode row f.0 f.1)
    (ap (λ z. coded_rest keeps contexts z.0 mode z.1) pair ∙ x.2)

-- What is read up to z, with the record's row.
pub record TwoRead {A : Type 0} (mode : Mode) (form : Form TwoRows A SetupFault) (value : A) (p : PlaceOf TwoRows) (z : PlaceOf Rows) : Type 0 where
  pub after : TwoRows
  pub read : form mode p ≡ Ok (value, place_of z.coder after)
  pub matches : AreRowsOf z.states after

set_rest_run : (mode : Mode) (keeps : Bool) (contexts : ℕ) (deltas : Option (List (List ℤ))) (p : PlaceOf TwoRows) (rows : Rows) (z : PlaceOf Rows)
    → AreDeltas contexts deltas
    → AreRowsOf rows p.states → IsRowsRun mode (place_of p.coder rows) (deltas_row_bits deltas) z
    → TwoRead mode (set_states true keeps contexts) (states_of keeps deltas) p z
unfolding coded_rest deltas_given IsRowsRun
set_rest_run mode keeps contexts None p rows z are r run =
    let here = subst (λ w. IsRangeRun mode (place_of p.coder w) (fields_bits (bit false ∷ [])) run.0) r.main run.1 in
    let same : place_of run.0.coder (with_row rows 0 run.0.states) ≡ z = run.2 in
    record {
      after = (run.0.states, p.states.1);
      read =
          bind_ok (coded_flag_at mode p) (λ x. coded_rest keeps contexts x.0 mode x.1) (false, place_of run.0.coder (run.0.states, p.states.1))
          (bind_ok (flag mode (place_of p.coder p.states.0)) (λ x. Ok (x.0, place_of x.1.coder (x.1.states, p.states.1))) (false, run.0)
          (flag-run mode false (place_of p.coder p.states.0) run.0 here))
          ∙ ap (λ w. Ok (uncoded_states, place_of w.coder (run.0.states, p.states.1))) same;
      matches = subst (λ w. AreRowsOf w.states (run.0.states, p.states.1)) same (with_main_row rows p.states.0 run.0.states p.states.1 r);
    }
set_rest_run mode keeps contexts (Some values) p rows z are r run =
    let here = subst (λ w. IsRangeRun mode (place_of p.coder w) (fields_bits (bit true ∷ [])) run.0) r.main run.1 in
    let d = contexts-run mode contexts [] values run.0.coder run.0.states p.states.1 (with_row rows 0 run.0.states) z are.0 are.1
    (with_main_row rows p.states.0 run.0.states p.states.1 r) run.2 in
    record {
      after = (run.0.states, d.after);
      read =
          bind_ok (coded_flag_at mode p) (λ x. coded_rest keeps contexts x.0 mode x.1) (true, place_of run.0.coder (run.0.states, p.states.1))
          (bind_ok (flag mode (place_of p.coder p.states.0)) (λ x. Ok (x.0, place_of x.1.coder (x.1.states, p.states.1))) (true, run.0)
          (flag-run mode true (place_of p.coder p.states.0) run.0 here))
          ∙ bind_ok (on delta_rows with_delta_rows (contexts_deltas contexts []) mode (place_of run.0.coder (run.0.states, p.states.1)))
          (λ x. deltas_given keeps x.0 mode x.1) (context_bytes values, place_of z.coder (run.0.states, d.after))
          (bind_ok (contexts_deltas contexts [] mode (place_of run.0.coder p.states.1))
          (λ x. Ok (x.0, place_of x.1.coder (run.0.states, x.1.states))) (context_bytes values, place_of z.coder d.after) d.read);
      matches = d.matches;
    }

-- ---- the states of the sets of a record

abbrev all_sets : ℕ → Bool
all_sets set = true

-- Sets of these tables, with the deltas that are coded for them.
pub record SetsStatesAt (mode : Mode) (keeps : Bool) (tables : List (List (List ℕ))) (done : List StatesValue) (p : PlaceOf TwoRows)
    (y : List StatesValue × PlaceOf TwoRows) : Type 0 where
  pub sets : List SetFields
  pub same : map (λ set. set.tables) sets ≡ tables
  pub each : All IsSetFields sets
  pub is : y.0 ≡ done ++ map (λ set. states_of keeps set.deltas) sets
  pub coded : AreCoded mode (flat_map (λ set. deltas_row_bits set.deltas) sets) p y.1

pub sets-states-found : (mode : Mode) (keeps : Bool) (tables : List (List (List ℕ))) (done : List StatesValue) (p : PlaceOf TwoRows)
    (y : List StatesValue × PlaceOf TwoRows) → All IsTableSet tables
    → sets_states (λ set. true) keeps (map (λ set. set.contexts) (map set_of tables)) done mode p ≡ Ok y → SetsStatesAt mode keeps tables done p y
unfolding sets_states sets_rest SetStatesAt
sets-states-found mode keeps [] done p y each h =
    let pair = same_ok (done, p) y h in
    record {
      sets = [];
      same = refl;
      each = All-nil IsSetFields;
      is = sym (ap (λ z. z.0) pair) ∙ sym (append-nil done);
      coded = subst (AreCoded mode [] p) (ap (λ z. z.1) pair) (nothing_coded mode p);
    }
sets-states-found mode keeps (set ∷ tables) done p y each h =
    let x = bind_is_ok (set_states true keeps (set_of set).contexts mode p) (λ x.
    sets_rest all_sets keeps (map (λ set. set.contexts) (map set_of tables)) done x.0 mode x.1) y h in
    let d = set-states-found mode keeps (set_of set).contexts p x.0 x.1 in
    let r = sets-states-found mode keeps tables (done ++ x.0.0 ∷ []) x.0.1 y (All-tail IsTableSet set tables each) x.2 in
    let first : SetFields = record { tables = set; deltas = d.0 } in
    record {
      sets = first ∷ r.sets;
      same = ap (λ z. set ∷ z) r.same;
      each = All-cons IsSetFields first r.sets (record { tables = All-head IsTableSet set tables each; deltas = d.1 }) r.each;
      is =
          r.is ∙ append_assoc done (x.0.0 ∷ []) (map (λ set. states_of keeps set.deltas) r.sets)
          ∙ ap (λ w. done ++ w ∷ map (λ set. states_of keeps set.deltas) r.sets) d.2;
      coded = both_coded mode (deltas_row_bits d.0) (flat_map (λ set. deltas_row_bits set.deltas) r.sets) p x.0.1 y.1 d.3 r.coded;
    }

pub sets-states-run : (mode : Mode) (keeps : Bool) (sets : List SetFields) (done : List StatesValue) (p : PlaceOf TwoRows) (rows : Rows) (z : PlaceOf Rows)
    → All IsSetFields sets
    → AreRowsOf rows p.states
    → IsRowsRun mode (place_of p.coder rows) (flat_map (λ set. deltas_row_bits set.deltas) sets) z
    → TwoRead mode (sets_states (λ set. true) keeps (map (λ set. set.contexts) (map (λ set. set_of set.tables) sets)) done)
    (done ++ map (λ set. states_of keeps set.deltas) sets) p z
unfolding sets_states sets_rest IsRowsRun
sets-states-run mode keeps [] done p rows z each r run =
    let same : place_of p.coder rows ≡ z = run in
    record {
      after = p.states;
      read = ap (λ w. Ok (w, p)) (sym (append-nil done)) ∙ ap (λ w. Ok (done ++ [], place_of w.coder p.states)) same;
      matches = subst (λ w. AreRowsOf w.states p.states) same r;
    }
sets-states-run mode keeps (set ∷ sets) done p rows z each r run =
    let s = rows_split mode (deltas_row_bits set.deltas) (flat_map (λ set. deltas_row_bits set.deltas) sets) (place_of p.coder rows) z run in
    let head : IsSetFields set = All-head IsSetFields set sets each in
    let first = set_rest_run mode keeps (set_of set.tables).contexts set.deltas p rows s.0 head.deltas r s.1 in
    let rest = sets-states-run mode keeps sets (done ++ states_of keeps set.deltas ∷ []) (place_of s.0.coder first.after) s.0.states z
    (All-tail IsSetFields set sets each) first.matches s.2 in
    record {
      after = rest.after;
      read =
          bind_ok (set_states true keeps (set_of set.tables).contexts mode p) (λ x.
          sets_rest all_sets keeps (map (λ set. set.contexts) (map (λ set. set_of set.tables) sets)) done x.0 mode x.1)
          (states_of keeps set.deltas, place_of s.0.coder first.after) first.read
          ∙ rest.read
          ∙ ap (λ w. Ok (w, place_of z.coder rest.after)) (append_assoc done (states_of keeps set.deltas ∷ []) (map (λ set. states_of keeps set.deltas) sets));
      matches = rest.matches;
    }
