-- Tables are read where they are coded, and nowhere else.
use Rattle.std.proofs.Common.{◌≡◌, ◌≢◌, ℕ, suc, zero, ◌+◌, ◌-◌, ◌/◌, ◌<◌, ◌≤◌, List, [], ◌∷◌, ◌++◌, length, map, Result, Ok, refl, sym, ap, ◌∙◌, subst, arith, append-nil, append_assoc, length-append, inl, inr}
use Rattle.std.specs.Prelude.{nat_le, sum}
use Rattle.std.specs.List.{All, flat_map}
use Rattle.std.proofs.lemmas.Bool.{le-leb, leb-true, cases_lt}
use Rattle.std.proofs.lemmas.List.Sums.{sum_by-cons}
use Rattle.std.proofs.lemmas.List.Elements.{All-cons, All-nil, All-head, All-tail}
use Rattle.ffv1_range.specs.Coding.{Mode, Coder, PlaceOf, Place, IsRangeRun}
use Rattle.ffv1_range.specs.Rows.{Rows, with_row, IsRowsRun}
use Rattle.ffv1_range.specs.Forms.{Form}
use Rattle.ffv1_range.specs.Fields.{number}
use Rattle.ffv1_range.specs.Symbols.{symbol_bits}
use Rattle.ffv1_range.specs.Tables.{SetValue, IsTable, IsTableSet, AreScalesSmall, half_of, halves_of, scale_after, scale_after_all, set_of}
use Rattle.ffv1_range.specs.TableForms.{fresh_row, runs_from, table_form, tables_from, sets_from}
use Rattle.ffv1_range.specs.Setup.{symbol, fields_bits, run_fields, table_row_bits, IsSymbol}
use Rattle.ffv1_range.specs.declared.fault.SetupFault.{SetupFault}
use Rattle.ffv1_range.specs.declared.fault.SetupFault.TheVariants.{TableRun, Contexts}
use Rattle.ffv1_range.proofs.Forms.{place_of, bind_ok}
use Rattle.ffv1_range.proofs.Spelling.{bind_is_ok, same_ok, run_append, run_split}
use Rattle.ffv1_range.proofs.FieldRuns.{number-found, number-run, accepted-found, accepted-run}
use Rattle.ffv1_range.proofs.RowRuns.{rows_append, rows_split, with_row-other, one_row_bits, table_row_bits-append}
use Rattle.ffv1_range.proofs.TableSteps.{run_rest, fit_rest, runs_from-open, runs_from-filled, set_rest, set_fit_rest, sets_rest}

small_symbol : (n : ℕ) → n ≤ 128 → IsSymbol n
small_symbol n h = omega arith

-- ---- the runs of a table

-- What is left to read of a table that is filled up to an entry.
record RunsAt (mode : Mode) (filled : ℕ) (got : List ℕ) (p : Place) (y : List ℕ × Place) : Type 0 where
  runs : List ℕ
  is : y.0 ≡ got ++ runs
  not_empty : All (λ len. 1 ≤ len) runs
  whole : filled + sum runs ≡ 128
  coded : IsRangeRun mode p (fields_bits (run_fields runs)) y.1

no_runs : (mode : Mode) (filled : ℕ) (got : List ℕ) (p : Place) (y : List ℕ × Place) → filled ≡ 128
    → ◌≡◌ {A = Result (List ℕ × Place) SetupFault} (Ok (got, p)) (Ok y) → RunsAt mode filled got p y
unfolding IsRangeRun fields_bits
no_runs mode filled got p y e h =
    let pair = same_ok (got, p) y h in
    record {
      runs = [];
      is = sym (ap (λ z. z.0) pair) ∙ sym (append-nil got);
      not_empty = All-nil (λ len. 1 ≤ len);
      whole = omega arith;
      coded = ap (λ z. z.1) pair;
    }

one_run : (mode : Mode) (filled less : ℕ) (got : List ℕ) (p q : Place) (y : List ℕ × Place) → IsRangeRun mode p (symbol_bits less) q
    → RunsAt mode (filled + (less + 1)) (got ++ (less + 1) ∷ []) q y → RunsAt mode filled got p y
unfolding fields_bits
one_run mode filled less got p q y run r =
    let same : less ≡ less + 1 - 1 = omega arith in
    let more : sum ((less + 1) ∷ r.runs) ≡ less + 1 + sum r.runs = sum_by-cons (λ x. x) (less + 1) r.runs in
    let some : 1 ≤ less + 1 = omega arith in
    record {
      runs = (less + 1) ∷ r.runs;
      is = r.is ∙ append_assoc got ((less + 1) ∷ []) r.runs;
      not_empty = All-cons (λ len. 1 ≤ len) (less + 1) r.runs some r.not_empty;
      whole = omega (arith, r.whole);
      coded = subst (λ z. IsRangeRun mode p (fields_bits (symbol z ∷ run_fields r.runs)) y.1) same
          (run_append mode (symbol_bits less) (fields_bits (run_fields r.runs)) p q y.1 run r.coded);
    }

-- a run that is read, and then those after it
more_runs : (mode : Mode) (n filled : ℕ) (got : List ℕ) (p : Place) (y : List ℕ × Place) → filled < 128 → runs_from (suc n) filled got mode p ≡ Ok y
    → ((less : ℕ) (q : Place) → filled + (less + 1) ≤ 128 → runs_from n (filled + (less + 1)) (got ++ (less + 1) ∷ []) mode q ≡ Ok y
    → RunsAt mode (filled + (less + 1)) (got ++ (less + 1) ∷ []) q y)
    → RunsAt mode filled got p y
unfolding run_rest fit_rest
more_runs mode n filled got p y room h later =
    let x = bind_is_ok (number mode p) (λ x. run_rest n filled got x.0 mode x.1) y (sym (ap (λ f. f mode p) (runs_from-open n filled got room)) ∙ h) in
    let less : ℕ = x.0.0 in
    let t = accepted-found mode x.0.1 (nat_le (filled + (less + 1)) 128) TableRun (fit_rest n filled got less) y x.2 in
    one_run mode filled less got p x.0.1 y (number-found mode p x.0 x.1).1 (later less x.0.1 (leb-true (filled + (less + 1)) 128 t.0) t.1)

runs-found : (mode : Mode) (n filled : ℕ) (got : List ℕ) (p : Place) (y : List ℕ × Place) → 128 ≤ filled + n → filled ≤ 128
    → runs_from n filled got mode p ≡ Ok y
    → RunsAt mode filled got p y
runs-found mode zero filled got p y enough within h =
    no_runs mode filled got p y (omega arith) (sym (ap (λ f. f mode p) (runs_from-filled zero filled got (omega arith))) ∙ h)
runs-found mode (suc n) filled got p y enough within h =
    elim (cases_lt filled 128) [
      | inl room ↦ more_runs mode n filled got p y room h (λ less q fits g. runs-found mode n (filled + (less + 1)) (got ++ (less + 1) ∷ []) q y
          (omega arith) fits g)
      | inr full ↦ no_runs mode filled got p y (omega arith) (sym (ap (λ f. f mode p) (runs_from-filled (suc n) filled got full)) ∙ h)
    ]

runs-run : (mode : Mode) (n filled : ℕ) (got runs : List ℕ) (p q : Place) → 128 ≤ filled + n → All (λ len. 1 ≤ len) runs → filled + sum runs ≡ 128
    → IsRangeRun mode p (fields_bits (run_fields runs)) q → runs_from n filled got mode p ≡ Ok (got ++ runs, q)
unfolding IsRangeRun fields_bits run_rest fit_rest
runs-run mode n filled got [] p q enough some whole run =
    ap (λ f. f mode p) (runs_from-filled n filled got (omega arith)) ∙ ap (λ z. Ok (z, p)) (sym (append-nil got)) ∙ ap (λ z. Ok (got ++ [], z)) run
runs-run mode zero filled got (len ∷ runs) p q enough some whole run =
    let more : sum (len ∷ runs) ≡ len + sum runs = sum_by-cons (λ x. x) len runs in
    let first : 1 ≤ len = All-head (λ z. 1 ≤ z) len runs some in
    absurd (omega arith)
runs-run mode (suc n) filled got (len ∷ runs) p q enough some whole run =
    let more : sum (len ∷ runs) ≡ len + sum runs = sum_by-cons (λ x. x) len runs in
    let first : 1 ≤ len = All-head (λ z. 1 ≤ z) len runs some in
    let same : len - 1 + 1 ≡ len = omega arith in
    let small : len - 1 ≤ 128 = omega arith in
    let s = run_split mode (symbol_bits (len - 1)) (fields_bits (run_fields runs)) p q run in
    ap (λ f. f mode p) (runs_from-open n filled got (omega arith))
    ∙ bind_ok (number mode p) (λ x. run_rest n filled got x.0 mode x.1) (len - 1, s.0)
    (number-run mode (len - 1) p s.0 (small_symbol (len - 1) small) s.1)
    ∙ accepted-run mode s.0 (nat_le (filled + (len - 1 + 1)) 128) TableRun (fit_rest n filled got (len - 1))
    (le-leb (filled + (len - 1 + 1)) 128 (omega arith))
    ∙ runs-run mode n (filled + (len - 1 + 1)) (got ++ (len - 1 + 1) ∷ []) runs s.0 q (omega arith)
    (All-tail (λ z. 1 ≤ z) len runs some) (omega arith) s.2
    ∙ ap (λ z. Ok (z, q)) (append_assoc got ((len - 1 + 1) ∷ []) runs ∙ ap (λ z. got ++ z ∷ runs) same)

-- ---- a table, at a row of its own

-- A table's runs are coded from c to d, at a fresh row.
abbrev IsTableRun : Mode → Coder → List ℕ → Coder → Type 0
IsTableRun mode c runs d = (row : List ℕ) × IsRangeRun mode (place_of c fresh_row) (fields_bits (run_fields runs)) (place_of d row)

table-found : (mode : Mode) (c : Coder) (runs : List ℕ) (q : PlaceOf (Unit {0})) → table_form mode (place_of c tt) ≡ Ok (runs, q) → IsTable runs
    × IsTableRun mode c runs q.coder
table-found mode c runs q h =
    let x = bind_is_ok (runs_from 128 0 [] mode (place_of c fresh_row)) (λ x. Ok (x.0, place_of x.1.coder tt)) (runs, q) h in
    let pair = same_ok (x.0.0, place_of x.0.1.coder tt) (runs, q) x.2 in
    let r = runs-found mode 128 0 [] (place_of c fresh_row) x.0 (omega arith) (omega arith) x.1 in
    let same : r.runs ≡ runs = sym r.is ∙ ap (λ z. z.0) pair in
    let end : x.0.1.coder ≡ q.coder = ap (λ z. z.1.coder) pair in (
      record { not_empty = subst (λ z. All (λ len. 1 ≤ len) z) same r.not_empty; whole = subst (λ z. sum z ≡ 128) same (omega (arith, r.whole)) },
      (
        x.0.1.states,
        subst (λ z. IsRangeRun mode (place_of c fresh_row) (fields_bits (run_fields z)) (place_of q.coder x.0.1.states)) same
            (subst (λ z. IsRangeRun mode (place_of c fresh_row) (fields_bits (run_fields r.runs)) (place_of z x.0.1.states)) end r.coded),
      ),
    )

table-run : (mode : Mode) (c d : Coder) (runs : List ℕ) → IsTable runs → IsTableRun mode c runs d
    → table_form mode (place_of c tt) ≡ Ok (runs, place_of d tt)
table-run mode c d runs t h =
    bind_ok (runs_from 128 0 [] mode (place_of c fresh_row)) (λ x. Ok (x.0, place_of x.1.coder tt)) (runs, place_of d h.0)
    (runs-run mode 128 0 [] runs (place_of c fresh_row) (place_of d h.0) (omega arith) t.not_empty (omega (arith, t.whole)) h.1)

-- ---- tables at rows of their own, among others

-- the rows of the tables from number m on are fresh
abbrev pub AreFreshFrom : ℕ → Rows → Type 0
AreFreshFrom m rows = (j : ℕ) → m ≤ j → rows (33 + j) ≡ fresh_row

-- The rows before those of the tables stay.
abbrev pub KeepsFront : Rows → Rows → Type 0
KeepsFront old new = (k : ℕ) → k < 33 → new k ≡ old k

-- From c to d these tables are coded, the first at the row of number m.
pub record TablesRun (mode : Mode) (m : ℕ) (tables : List (List ℕ)) (c d : Coder) (rows : Rows) : Type 0 where
  pub after : Rows
  pub coded : IsRowsRun mode (place_of c rows) (table_row_bits m tables) (place_of d after)
  pub fresh : AreFreshFrom (m + length tables) after
  pub kept : KeepsFront rows after

-- whatever the other rows are
abbrev pub AreTablesCoded : Mode → List (List ℕ) → Coder → Coder → Type 0
AreTablesCoded mode tables c d = (m : ℕ) (rows : Rows) → AreFreshFrom m rows → TablesRun mode m tables c d rows

no_tables : (mode : Mode) (c : Coder) → AreTablesCoded mode [] c c
unfolding IsRowsRun table_row_bits
no_tables mode c m rows fresh = record { after = rows; coded = refl; fresh = λ j h. fresh j (omega arith); kept = λ k h. refl }

more_tables : (mode : Mode) (runs : List ℕ) (tables : List (List ℕ)) (c d e : Coder) → IsTableRun mode c runs d → AreTablesCoded mode tables d e
    → AreTablesCoded mode (runs ∷ tables) c e
unfolding table_row_bits
more_tables mode runs tables c d e h later m rows fresh =
    let next : Rows = with_row rows (33 + m) h.0 in
    let r : TablesRun mode (m + 1) tables d e next =
    later (m + 1) next (λ j l. let apart : 33 + j ≢ 33 + m = omega arith in with_row-other rows (33 + m) (33 + j) h.0 apart ∙ fresh j (omega arith)) in
    record {
      after = r.after;
      coded =
          rows_append mode ((33 + m, fields_bits (run_fields runs)) ∷ []) (table_row_bits (m + 1) tables) (place_of c rows) (place_of d next)
          (place_of e r.after)
          (one_row_bits mode c rows (33 + m) fresh_row (fields_bits (run_fields runs)) (place_of d h.0) (fresh m (omega arith)) h.1) r.coded;
      fresh = λ j l. r.fresh j (omega arith);
      kept = λ k l. let apart : k ≢ 33 + m = omega arith in r.kept k l ∙ with_row-other rows (33 + m) k h.0 apart;
    }

-- ---- the tables of a set

-- What is left to read of a set, at a scale and after some halves.
record TablesAt (mode : Mode) (n scale : ℕ) (halves : List (List ℕ)) (c : Coder) (y : SetValue × PlaceOf (Unit {0})) : Type 0 where
  tables : List (List ℕ)
  size : length tables ≡ n
  each : All IsTable tables
  small : AreScalesSmall scale tables
  is : y.0 ≡ record { halves = halves ++ halves_of scale tables; contexts = (scale_after_all scale tables + 1) / 2 }
  coded : AreTablesCoded mode tables c y.1.coder

tables-found : (mode : Mode) (n scale : ℕ) (halves : List (List ℕ)) (c : Coder) (y : SetValue × PlaceOf (Unit {0}))
    → tables_from n scale halves mode (place_of c tt) ≡ Ok y
    → TablesAt mode n scale halves c y
unfolding tables_from set_rest set_fit_rest
tables-found mode zero scale halves c y h =
    let pair = same_ok (record { halves = halves; contexts = (scale + 1) / 2 }, place_of c tt) y h in
    let value : y.0 ≡ record { halves = halves; contexts = (scale + 1) / 2 } = sym (ap (λ z. z.0) pair) in
    record {
      tables = [];
      size = refl;
      each = All-nil IsTable;
      small = tt;
      is = value ∙ ap (λ z. record { halves = z; contexts = (scale + 1) / 2 }) (sym (append-nil halves));
      coded = subst (AreTablesCoded mode [] c) (ap (λ z. z.1.coder) pair) (no_tables mode c);
    }
tables-found mode (suc n) scale halves c y h =
    let x = bind_is_ok (table_form mode (place_of c tt)) (λ x. set_rest n scale halves x.0 mode x.1) y h in
    let t = table-found mode c x.0.0 x.0.1 x.1 in
    let fits = accepted-found mode x.0.1 (nat_le (scale_after scale x.0.0) 65535) Contexts (set_fit_rest n scale halves x.0.0) y x.2 in
    let r = tables-found mode n (scale_after scale x.0.0) (halves ++ half_of scale x.0.0 ∷ []) x.0.1.coder y fits.1 in
    record {
      tables = x.0.0 ∷ r.tables;
      size = ap suc r.size;
      each = All-cons IsTable x.0.0 r.tables t.0 r.each;
      small = (leb-true (scale_after scale x.0.0) 65535 fits.0, r.small);
      is = r.is ∙ ap (λ z. record { halves = z; contexts = (scale_after_all (scale_after scale x.0.0) r.tables + 1) / 2 })
          (append_assoc halves (half_of scale x.0.0 ∷ []) (halves_of (scale_after scale x.0.0) r.tables));
      coded = more_tables mode x.0.0 r.tables c x.0.1.coder y.1.coder t.1 r.coded;
    }

-- What reading tables gives where they are coded up to q.
pub record TablesRead {A : Type 0} (mode : Mode) (form : Form (Unit {0}) A SetupFault) (a : A) (m : ℕ) (c : Coder) (rows : Rows)
    (q : PlaceOf Rows) : Type 0 where
  pub read : form mode (place_of c tt) ≡ Ok (a, place_of q.coder tt)
  pub fresh : AreFreshFrom m q.states
  pub kept : KeepsFront rows q.states

tables-run : (mode : Mode) (n scale : ℕ) (halves tables : List (List ℕ)) (m : ℕ) (c : Coder) (rows : Rows) (q : PlaceOf Rows) → length tables ≡ n
    → All IsTable tables
    → AreScalesSmall scale tables → AreFreshFrom m rows → IsRowsRun mode (place_of c rows) (table_row_bits m tables) q
    → TablesRead mode (tables_from n scale halves) (record {
      halves = halves ++ halves_of scale tables;
      contexts = (scale_after_all scale tables + 1) / 2;
    }) (m + length tables) c rows q
unfolding tables_from IsRowsRun table_row_bits set_rest set_fit_rest
tables-run mode n scale halves [] m c rows q size each small fresh run =
    let same : place_of c rows ≡ q = run in
    let nothing : place_of c tt ≡ place_of q.coder tt = ap (λ z. place_of z.coder tt) same in
    record {
      read =
          ap (λ z. tables_from z scale halves mode (place_of c tt)) (sym size)
          ∙ ap (λ z. Ok (record { halves = halves; contexts = (scale + 1) / 2 }, z)) nothing
          ∙ ap (λ z. Ok (record { halves = z; contexts = (scale + 1) / 2 }, place_of q.coder tt)) (sym (append-nil halves));
      fresh = λ j h. sym (ap (λ z. z.states (33 + j)) same) ∙ fresh j (omega arith);
      kept = λ k h. sym (ap (λ z. z.states k) same);
    }
tables-run mode zero scale halves (runs ∷ tables) m c rows q size each small fresh run = absurd (omega (arith, size))
tables-run mode (suc n) scale halves (runs ∷ tables) m c rows q size each small fresh run =
    let next : Rows = with_row rows (33 + m) run.0.states in
    let here : IsTableRun mode c runs run.0.coder =
    (run.0.states, subst (λ z. IsRangeRun mode (place_of c z) (fields_bits (run_fields runs)) run.0) (fresh m (omega arith)) run.1) in
    let r = tables-run mode n (scale_after scale runs) (halves ++ half_of scale runs ∷ []) tables (m + 1) run.0.coder next q (omega (arith, size))
    (All-tail IsTable runs tables each) small.1
    (λ j l. let apart : 33 + j ≢ 33 + m = omega arith in with_row-other rows (33 + m) (33 + j) run.0.states apart ∙ fresh j (omega arith)) run.2 in
    record {
      read =
          bind_ok (table_form mode (place_of c tt)) (λ x. set_rest n scale halves x.0 mode x.1) (runs, place_of run.0.coder tt)
          (table-run mode c run.0.coder runs (All-head IsTable runs tables each) here)
          ∙ accepted-run mode (place_of run.0.coder tt) (nat_le (scale_after scale runs) 65535) Contexts (set_fit_rest n scale halves runs)
          (le-leb (scale_after scale runs) 65535 small.0)
          ∙ r.read
          ∙ ap (λ z. Ok (record { halves = z; contexts = (scale_after_all (scale_after scale runs) tables + 1) / 2 }, place_of q.coder tt))
          (append_assoc halves (half_of scale runs ∷ []) (halves_of (scale_after scale runs) tables));
      fresh = λ j l. r.fresh j (omega arith);
      kept = λ k l. let apart : k ≢ 33 + m = omega arith in r.kept k l ∙ with_row-other rows (33 + m) k run.0.states apart;
    }

-- ---- the sets of a record

-- What is left to read of some sets, after those that were read.
pub record SetsAt (mode : Mode) (n : ℕ) (got : List SetValue) (c : Coder) (y : List SetValue × PlaceOf (Unit {0})) : Type 0 where
  pub sets : List (List (List ℕ))
  pub size : length sets ≡ n
  pub each : All IsTableSet sets
  pub is : y.0 ≡ got ++ map set_of sets
  pub coded : AreTablesCoded mode (flat_map (λ set. set) sets) c y.1.coder

both_tables : (mode : Mode) (xs ys : List (List ℕ)) (c d e : Coder) → AreTablesCoded mode xs c d → AreTablesCoded mode ys d e
    → AreTablesCoded mode (xs ++ ys) c e
both_tables mode xs ys c d e h k m rows fresh =
    let a = h m rows fresh in
    let b = k (m + length xs) a.after a.fresh in
    let size : length (xs ++ ys) ≡ length xs + length ys = length-append xs ys in
    record {
      after = b.after;
      coded =
          subst (λ z. IsRowsRun mode (place_of c rows) z (place_of e b.after)) (sym (table_row_bits-append m xs ys))
          (rows_append mode (table_row_bits m xs) (table_row_bits (m + length xs) ys) (place_of c rows) (place_of d a.after)
          (place_of e b.after) a.coded b.coded);
      fresh = λ j l. b.fresh j (omega arith);
      kept = λ i l. b.kept i l ∙ a.kept i l;
    }

set-found : (mode : Mode) (c : Coder) (y : SetValue × PlaceOf (Unit {0})) → tables_from 5 1 [] mode (place_of c tt) ≡ Ok y
    → (tables : List (List ℕ)) × IsTableSet tables × (y.0 ≡ set_of tables) × AreTablesCoded mode tables c y.1.coder
set-found mode c y h =
    let r = tables-found mode 5 1 [] c y h in
    (r.tables, record { five = r.size; tables = r.each; small = r.small }, r.is, r.coded)

pub sets-found : (mode : Mode) (n : ℕ) (got : List SetValue) (c : Coder) (y : List SetValue × PlaceOf (Unit {0}))
    → sets_from n got mode (place_of c tt) ≡ Ok y → SetsAt mode n got c y
unfolding sets_from sets_rest
sets-found mode zero got c y h =
    let pair = same_ok (got, place_of c tt) y h in
    record {
      sets = [];
      size = refl;
      each = All-nil IsTableSet;
      is = sym (ap (λ z. z.0) pair) ∙ sym (append-nil got);
      coded = subst (AreTablesCoded mode [] c) (ap (λ z. z.1.coder) pair) (no_tables mode c);
    }
sets-found mode (suc n) got c y h =
    let x = bind_is_ok (tables_from 5 1 [] mode (place_of c tt)) (λ x. sets_rest n got x.0 mode x.1) y h in
    let s = set-found mode c x.0 x.1 in
    let r = sets-found mode n (got ++ x.0.0 ∷ []) x.0.1.coder y x.2 in
    record {
      sets = s.0 ∷ r.sets;
      size = ap suc r.size;
      each = All-cons IsTableSet s.0 r.sets s.1 r.each;
      is = r.is ∙ append_assoc got (x.0.0 ∷ []) (map set_of r.sets) ∙ ap (λ z. got ++ z ∷ map set_of r.sets) s.2;
      coded = both_tables mode s.0 (flat_map (λ set. set) r.sets) c x.0.1.coder y.1.coder s.3 r.coded;
    }

set-run : (mode : Mode) (tables : List (List ℕ)) (m : ℕ) (c : Coder) (rows : Rows) (q : PlaceOf Rows) → IsTableSet tables → AreFreshFrom m rows
    → IsRowsRun mode (place_of c rows) (table_row_bits m tables) q → TablesRead mode (tables_from 5 1 []) (set_of tables) (m + length tables) c rows q
set-run mode tables m c rows q h fresh run = tables-run mode 5 1 [] tables m c rows q h.five h.tables h.small fresh run

pub sets-run : (mode : Mode) (n : ℕ) (got : List SetValue) (sets : List (List (List ℕ))) (m : ℕ) (c : Coder) (rows : Rows) (q : PlaceOf Rows)
    → length sets ≡ n → All IsTableSet sets
    → AreFreshFrom m rows → IsRowsRun mode (place_of c rows) (table_row_bits m (flat_map (λ set. set) sets)) q
    → TablesRead mode (sets_from n got) (got ++ map set_of sets) (m + length (flat_map (λ set. set) sets)) c rows q
unfolding sets_from IsRowsRun table_row_bits sets_rest
sets-run mode n got [] m c rows q size each fresh run =
    let same : place_of c rows ≡ q = run in
    record {
      read =
          ap (λ z. sets_from z got mode (place_of c tt)) (sym size)
          ∙ ap (λ z. Ok (got, place_of z.coder tt)) same
          ∙ ap (λ z. Ok (z, place_of q.coder tt)) (sym (append-nil got));
      fresh = λ j h. sym (ap (λ z. z.states (33 + j)) same) ∙ fresh j (omega arith);
      kept = λ k h. sym (ap (λ z. z.states k) same);
    }
sets-run mode zero got (tables ∷ sets) m c rows q size each fresh run = absurd (omega (arith, size))
sets-run mode (suc n) got (tables ∷ sets) m c rows q size each fresh run =
    let all : List (List ℕ) = flat_map (λ set. set) sets in
    let s = rows_split mode (table_row_bits m tables) (table_row_bits (m + length tables) all) (place_of c rows) q
    (subst (λ z. IsRowsRun mode (place_of c rows) z q) (table_row_bits-append m tables all) run) in
    let first = set-run mode tables m c rows s.0 (All-head IsTableSet tables sets each) fresh s.1 in
    let r = sets-run mode n (got ++ set_of tables ∷ []) sets (m + length tables) s.0.coder s.0.states q (omega (arith, size))
    (All-tail IsTableSet tables sets each) first.fresh s.2 in
    let count : length (tables ++ all) ≡ length tables + length all = length-append tables all in
    record {
      read =
          bind_ok (tables_from 5 1 [] mode (place_of c tt)) (λ x. sets_rest n got x.0 mode x.1) (set_of tables, place_of s.0.coder tt) first.read
          ∙ r.read
          ∙ ap (λ z. Ok (z, place_of q.coder tt)) (append_assoc got (set_of tables ∷ []) (map set_of sets));
      fresh = λ j l. r.fresh j (omega arith);
      kept = λ i l. r.kept i l ∙ first.kept i l;
    }
