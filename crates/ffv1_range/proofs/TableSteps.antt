-- Tables read run by run, as their loops go.
use Rattle.std.proofs.Common.{◌≡◌, ℕ, suc, zero, ◌+◌, ◌-◌, ◌/◌, ◌<◌, ◌≤◌, Bool, List, [], ◌∷◌, ◌++◌, Ok, Err, refl, sym, ap, ◌∙◌, subst, arith, length, take, set, ◌*◌}
use Rattle.std.specs.Prelude.{nat_le, slice_index, if◌then◌else◌}
use Rattle.std.proofs.lemmas.List.{get_or-replicate, take_more_set}
use Rattle.std.proofs.lemmas.Bool.{le-leb, lt-leb}
use Rattle.ffv1_range.specs.Decoder.{Reader, AreStates}
use Rattle.ffv1_range.specs.Forms.{Form, ◌>>=◌, giving, accepted, form_at, ReadsForm, same_fault}
use Rattle.ffv1_range.specs.Reading.{symbol_form}
use Rattle.ffv1_range.specs.Fields.{number}
use Rattle.ffv1_range.specs.TableForms.{fresh_row, runs_from, table_form, tables_from, sets_from}
use Rattle.ffv1_range.specs.Tables.{SetValue, half_of, scale_after}
use Rattle.ffv1_range.specs.declared.coding.RangeFault.{RangeFault}
use Rattle.ffv1_range.specs.declared.fault.SetupFault.{SetupFault}
use Rattle.ffv1_range.specs.declared.fault.SetupFault.TheVariants.{Range, TableRun, Contexts}
use Rattle.ffv1_range.proofs.Forms.{Continues, IsAtPlace, read_lifted, fault_lifted, continue_next, continue_stop, continue_accepted, continue_end, continue_give, refused, read_on, at_ok, next_of, stop_of, end_of}

pub fresh_row-states : AreStates fresh_row
fresh_row-states i h = let e : slice_index fresh_row i ≡ 128 = get_or-replicate 32 i 128 0 h in (omega arith, omega arith)

-- ---- the runs of a table

-- after a run that fits
unfoldable pub fit_rest : ℕ → ℕ → List ℕ → ℕ → Bool → Form (List ℕ) (List ℕ) SetupFault
fit_rest n filled got less fits = runs_from n (filled + (less + 1)) (got ++ (less + 1) ∷ [])

-- after the length of a run
unfoldable pub run_rest : ℕ → ℕ → List ℕ → ℕ → Form (List ℕ) (List ℕ) SetupFault
run_rest n filled got less = accepted (nat_le (filled + (less + 1)) 128) TableRun >>= fit_rest n filled got less

pub runs_from-open : (n filled : ℕ) (got : List ℕ) → filled < 128 → runs_from (suc n) filled got ≡ (number >>= run_rest n filled got)
unfolding runs_from run_rest fit_rest
runs_from-open n filled got h = ap (λ b. if b then giving got else (number >>= run_rest n filled got)) (lt-leb 128 filled h)

pub runs_from-filled : (n filled : ℕ) (got : List ℕ) → 128 ≤ filled → runs_from n filled got ≡ giving got
unfolding runs_from run_rest fit_rest
runs_from-filled zero filled got h = refl
runs_from-filled (suc n) filled got h = ap (λ b. if b then giving got else (number >>= run_rest n filled got)) (le-leb 128 filled h)

run_read : (form : Form (List ℕ) (List ℕ) SetupFault) (k n filled less : ℕ) (got : List ℕ) (q r s : Reader) (start row states : List ℕ) → k ≡ suc n
    → filled < 128
    → Continues Range form q start (runs_from k filled got) r row → ReadsForm same_fault symbol_form r row (Ok less) s states
    → Continues Range form q start (run_rest n filled got less) s states
run_read form k n filled less got q r s start row states l room so h =
    continue_next Range form number (run_rest n filled got) q r s start row states less
    (subst (λ z. Continues Range form q start z r row) (ap (λ z. runs_from z filled got) l ∙ runs_from-open n filled got room) so)
    (read_lifted Range symbol_form r s row states less h)

pub run_turn : (form : Form (List ℕ) (List ℕ) SetupFault) (k n filled less : ℕ) (got : List ℕ) (q r s : Reader) (start row states : List ℕ) → k ≡ suc n
    → filled < 128
    → filled + (less + 1) ≤ 128 → Continues Range form q start (runs_from k filled got) r row → ReadsForm same_fault symbol_form r row (Ok less) s states
    → Continues Range form q start (runs_from n (filled + (less + 1)) (got ++ (less + 1) ∷ [])) s states
unfolding run_rest fit_rest
run_turn form k n filled less got q r s start row states l room fits so h =
    continue_accepted Range form (nat_le (filled + (less + 1)) 128) TableRun (fit_rest n filled got less) q s start states
    (le-leb (filled + (less + 1)) 128 fits)
    (run_read form k n filled less got q r s start row states l room so h)

pub run_fails : (form : Form (List ℕ) (List ℕ) SetupFault) (k n filled : ℕ) (got : List ℕ) (f : RangeFault) (q r s : Reader) (start row states : List ℕ)
    → k ≡ suc n → filled < 128
    → Continues Range form q start (runs_from k filled got) r row → ReadsForm same_fault symbol_form r row (Err f) s states
    → form_at Range form q start ≡ Err (Range f)
run_fails form k n filled got f q r s start row states l room so h =
    continue_stop Range form number (run_rest n filled got) q r s start row states (Range f)
    (subst (λ z. Continues Range form q start z r row) (ap (λ z. runs_from z filled got) l ∙ runs_from-open n filled got room) so)
    (fault_lifted Range symbol_form r s row states f h)

pub run_too_long : (form : Form (List ℕ) (List ℕ) SetupFault) (k n filled less : ℕ) (got : List ℕ) (q r s : Reader) (start row states : List ℕ) → k ≡ suc n
    → filled < 128
    → 128 < filled + (less + 1) → Continues Range form q start (runs_from k filled got) r row → ReadsForm same_fault symbol_form r row (Ok less) s states
    → form_at Range form q start ≡ Err TableRun
unfolding run_rest
run_too_long form k n filled less got q r s start row states l room over so h =
    refused Range form (nat_le (filled + (less + 1)) 128) TableRun (fit_rest n filled got less) q s start states (lt-leb (filled + (less + 1)) 128 over)
    (h.0, at_ok r s h.0 h.2)
    (run_read form k n filled less got q r s start row states l room so h)

pub runs_end : (form : Form (List ℕ) (List ℕ) SetupFault) (k filled : ℕ) (got : List ℕ) (q r : Reader) (start row : List ℕ) → 128 ≤ filled → IsAtPlace r
    → Continues Range form q start (runs_from k filled got) r row → ReadsForm Range form q start (Ok got) r row
runs_end form k filled got q r start row h at so =
    continue_end Range form (giving got) q r r start row row (Ok got)
    (subst (λ z. Continues Range form q start z r row) (runs_from-filled k filled got h) so)
    (continue_give Range r at.0 row got (giving got) at.1 refl)

-- a table is its runs at a row of its own

pub table_fails : (e : SetupFault) (r s : Reader) → form_at Range (runs_from 128 0 []) r fresh_row ≡ Err e → form_at Range table_form r tt ≡ Err e
table_fails e r s h = read_on Range (λ at_hand. fresh_row) (λ at_hand used. at_hand) (runs_from 128 0 []) r s tt fresh_row (Err e) h

pub table_read : (r s : Reader) (row : List ℕ) (runs : List ℕ) → ReadsForm Range (runs_from 128 0 []) r fresh_row (Ok runs) s row
    → ReadsForm Range table_form r tt (Ok runs) s tt
table_read r s row runs h = read_on Range (λ at_hand. fresh_row) (λ at_hand used. at_hand) (runs_from 128 0 []) r s tt row (Ok runs) h

-- ---- the tables of a set

unfoldable pub set_fit_rest : ℕ → ℕ → List (List ℕ) → List ℕ → Bool → Form (Unit {0}) SetValue SetupFault
set_fit_rest n scale halves runs fits = tables_from n (scale_after scale runs) (halves ++ half_of scale runs ∷ [])

unfoldable pub set_rest : ℕ → ℕ → List (List ℕ) → List ℕ → Form (Unit {0}) SetValue SetupFault
set_rest n scale halves runs = accepted (nat_le (scale_after scale runs) 65535) Contexts >>= set_fit_rest n scale halves runs

tables_from-suc : (k n scale : ℕ) (halves : List (List ℕ)) → k ≡ suc n → tables_from k scale halves ≡ (table_form >>= set_rest n scale halves)
unfolding tables_from set_rest set_fit_rest
tables_from-suc k n scale halves l = ap (λ z. tables_from z scale halves) l

pub set_fails : (form : Form (Unit {0}) SetValue SetupFault) (k n scale : ℕ) (halves : List (List ℕ)) (e : SetupFault) (q r s : Reader) → k ≡ suc n
    → Continues Range form q tt (tables_from k scale halves) r tt → ReadsForm Range table_form r tt (Err e) s tt → form_at Range form q tt ≡ Err e
set_fails form k n scale halves e q r s l so h =
    stop_of Range form (tables_from k scale halves) table_form (set_rest n scale halves) q r s tt tt tt e (tables_from-suc k n scale halves l) so h

pub set_turn : (form : Form (Unit {0}) SetValue SetupFault) (k n scale : ℕ) (halves : List (List ℕ)) (runs : List ℕ) (q r s : Reader) → k ≡ suc n
    → scale_after scale runs ≤ 65535 → Continues Range form q tt (tables_from k scale halves) r tt → ReadsForm Range table_form r tt (Ok runs) s tt
    → Continues Range form q tt (tables_from n (scale_after scale runs) (halves ++ half_of scale runs ∷ [])) s tt
unfolding set_rest set_fit_rest
set_turn form k n scale halves runs q r s l small so h =
    continue_accepted Range form (nat_le (scale_after scale runs) 65535) Contexts (set_fit_rest n scale halves runs) q s tt tt
    (le-leb (scale_after scale runs) 65535 small)
    (next_of Range form (tables_from k scale halves) table_form (set_rest n scale halves) q r s tt tt tt runs (tables_from-suc k n scale halves l) so h)

pub set_too_fine : (form : Form (Unit {0}) SetValue SetupFault) (k n scale : ℕ) (halves : List (List ℕ)) (runs : List ℕ) (q r s : Reader) → k ≡ suc n
    → 65535 < scale_after scale runs → Continues Range form q tt (tables_from k scale halves) r tt → ReadsForm Range table_form r tt (Ok runs) s tt
    → form_at Range form q tt ≡ Err Contexts
unfolding set_rest
set_too_fine form k n scale halves runs q r s l over so h =
    refused Range form (nat_le (scale_after scale runs) 65535) Contexts (set_fit_rest n scale halves runs) q s tt tt
    (lt-leb (scale_after scale runs) 65535 over)
    (h.0, at_ok r s h.0 h.2)
    (next_of Range form (tables_from k scale halves) table_form (set_rest n scale halves) q r s tt tt tt runs (tables_from-suc k n scale halves l) so h)

pub set_end : (form : Form (Unit {0}) SetValue SetupFault) (k scale : ℕ) (halves : List (List ℕ)) (q r : Reader) → k ≡ 0 → IsAtPlace r
    → Continues Range form q tt (tables_from k scale halves) r tt → ReadsForm Range form q tt (Ok (record { halves = halves; contexts = (scale + 1) / 2 })) r tt
unfolding tables_from
set_end form k scale halves q r l at so =
    end_of Range form (tables_from k scale halves) q r tt tt (record { halves = halves; contexts = (scale + 1) / 2 })
    (ap (λ z. tables_from z scale halves) l) at so

-- ---- the sets of a record

unfoldable pub sets_rest : ℕ → List SetValue → SetValue → Form (Unit {0}) (List SetValue) SetupFault
sets_rest n got set = sets_from n (got ++ set ∷ [])

sets_from-suc : (k n : ℕ) (got : List SetValue) → k ≡ suc n → sets_from k got ≡ (tables_from 5 1 [] >>= sets_rest n got)
unfolding sets_from sets_rest
sets_from-suc k n got l = ap (λ z. sets_from z got) l

pub sets_fails : (form : Form (Unit {0}) (List SetValue) SetupFault) (k n : ℕ) (got : List SetValue) (e : SetupFault) (q r s : Reader) → k ≡ suc n
    → Continues Range form q tt (sets_from k got) r tt → ReadsForm Range (tables_from 5 1 []) r tt (Err e) s tt → form_at Range form q tt ≡ Err e
sets_fails form k n got e q r s l so h =
    stop_of Range form (sets_from k got) (tables_from 5 1 []) (sets_rest n got) q r s tt tt tt e (sets_from-suc k n got l) so h

pub sets_turn : (form : Form (Unit {0}) (List SetValue) SetupFault) (k n : ℕ) (got : List SetValue) (set : SetValue) (q r s : Reader) → k ≡ suc n
    → Continues Range form q tt (sets_from k got) r tt → ReadsForm Range (tables_from 5 1 []) r tt (Ok set) s tt
    → Continues Range form q tt (sets_from n (got ++ set ∷ [])) s tt
unfolding sets_rest
sets_turn form k n got set q r s l so h =
    next_of Range form (sets_from k got) (tables_from 5 1 []) (sets_rest n got) q r s tt tt tt set (sets_from-suc k n got l) so h

pub sets_end : (form : Form (Unit {0}) (List SetValue) SetupFault) (k : ℕ) (got : List SetValue) (q r : Reader) → k ≡ 0 → IsAtPlace r
    → Continues Range form q tt (sets_from k got) r tt → ReadsForm Range form q tt (Ok got) r tt
unfolding sets_from
sets_end form k got q r l at so = end_of Range form (sets_from k got) q r tt tt got (ap (λ z. sets_from z got) l) at so

-- a turn of the loop over a set's tables, which writes the half of table t
pub set_more : (all : List (List ℕ)) (half items runs : List ℕ) (t scale : ℕ) (q r s : Reader) → items ≡ runs → half ≡ half_of scale runs → t < 5
    → length all ≡ 5
    → scale * (2 * length items - 1) ≤ 65535 → Continues Range (tables_from 5 1 []) q tt (tables_from (5 - t) scale (take t all)) r tt
    → ReadsForm Range table_form r tt (Ok runs) s tt
    → Continues Range (tables_from 5 1 []) q tt (tables_from (5 - (t + 1)) (scale * (2 * length items - 1)) (take (t + 1) (set all t half))) s tt
set_more all half items runs t scale q r s same e h five small so read =
    let left : 4 - t ≡ 5 - (t + 1) = omega arith in
    let next : scale_after scale runs ≡ scale * (2 * length items - 1) = ap (λ z. scale * (2 * length z - 1)) (sym same) in
    let more : take t all ++ half_of scale runs ∷ [] ≡ take (t + 1) (set all t half) =
    ap (λ z. take t all ++ z ∷ []) (sym e) ∙ sym (take_more_set all t half (omega arith)) in
    subst (λ z. Continues Range (tables_from 5 1 []) q tt (tables_from (5 - (t + 1)) (scale * (2 * length items - 1)) z) s tt) more
    (subst (λ z. Continues Range (tables_from 5 1 []) q tt (tables_from (5 - (t + 1)) z (take t all ++ half_of scale runs ∷ [])) s tt) next
    (subst (λ z. Continues Range (tables_from 5 1 []) q tt (tables_from z (scale_after scale runs) (take t all ++ half_of scale runs ∷ [])) s tt) left
    (set_turn (tables_from 5 1 []) (5 - t) (4 - t) scale (take t all) runs q r s (omega arith) (subst (λ z. z ≤ 65535) (sym next) small) so read)))
