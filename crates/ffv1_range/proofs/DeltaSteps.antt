-- Deltas read row by row, context by context and set by set, as their loops go.
use Rattle.std.proofs.Common.{◌≡◌, ℕ, suc, ◌+◌, ◌%◌, Bool, true, List, [], ◌∷◌, ◌++◌, length, map, take, Ok, Err, refl, sym, ap, ◌∙◌, subst, arith}
use Rattle.std.proofs.lemmas.List.{get_or-replicate, length-append, take-append-le, take_all}
use Rattle.std.proofs.lemmas.List.FromFn.{fill_by_all, get_or-map-range_with_len, length-map-range_with_len, map-range_with_len_more}
use Rattle.std.proofs.lemmas.List.Sums.{sum_by-append}
use Rattle.ffv1_range.proofs.TableSteps.{fresh_row-states}
use Rattle.std.specs.Prelude.{ℤ, slice_index, slice_index_or, sum_by}
use Rattle.std.specs.List.{range_with_len}
use Rattle.ffv1_range.specs.Decoder.{Reader, AreStates}
use Rattle.ffv1_range.specs.Forms.{Form, ◌>>=◌, form_at, ReadsForm}
use Rattle.ffv1_range.specs.Transitions.{delta_byte}
use Rattle.ffv1_range.specs.InitialStates.{initial_state, context_states, initial_states, StatesValue}
use Rattle.ffv1_range.specs.TableForms.{TwoRows, fresh_row, beside_fresh_rows, record_row_after, fresh_rows, delta_form, context_deltas, contexts_deltas, set_states, sets_states, states_form}
use Rattle.ffv1_range.specs.Inner.TableForms.{AreStateRows, state_with, states_with}
use Rattle.ffv1_range.specs.declared.fault.SetupFault.{SetupFault}
use Rattle.ffv1_range.specs.declared.fault.SetupFault.TheVariants.{Range}
use Rattle.ffv1_range.proofs.Forms.{Continues, IsAtPlace, read_on, next_of, stop_of, end_of}

abbrev Rows : Type 0
Rows = List (List ℕ)

pub fresh_rows-states : AreStateRows fresh_rows
fresh_rows-states k h = let e : slice_index_or fresh_rows k [] ≡ fresh_row = get_or-replicate 32 k fresh_row [] h in subst AreStates (sym e) fresh_row-states

-- ---- a context

abbrev Bytes : Type 0
Bytes = Form Rows (List ℕ) SetupFault

unfoldable pub context_rest : ℕ → ℕ → List ℕ → ℤ → Bytes
context_rest n k done delta = context_deltas n (k + 1) (done ++ delta_byte delta ∷ [])

context_deltas-suc : (m n k : ℕ) (done : List ℕ) → m ≡ suc n → context_deltas m k done ≡ (delta_form k >>= context_rest n k done)
unfolding context_deltas context_rest
context_deltas-suc m n k done l = ap (λ z. context_deltas z k done) l

pub context_turn : (form : Bytes) (m n k : ℕ) (done : List ℕ) (delta : ℤ) (q r s : Reader) (start rows after : Rows) → m ≡ suc n
    → Continues Range form q start (context_deltas m k done) r rows → ReadsForm Range (delta_form k) r rows (Ok delta) s after
    → Continues Range form q start (context_deltas n (k + 1) (done ++ delta_byte delta ∷ [])) s after
unfolding context_rest
context_turn form m n k done delta q r s start rows after l so h =
    next_of Range form (context_deltas m k done) (delta_form k) (context_rest n k done) q r s start rows after delta (context_deltas-suc m n k done l) so h

pub context_fails : (form : Bytes) (m n k : ℕ) (done : List ℕ) (e : SetupFault) (q r s : Reader) (start rows after : Rows) → m ≡ suc n
    → Continues Range form q start (context_deltas m k done) r rows → ReadsForm Range (delta_form k) r rows (Err e) s after
    → form_at Range form q start ≡ Err e
context_fails form m n k done e q r s start rows after l so h =
    stop_of Range form (context_deltas m k done) (delta_form k) (context_rest n k done) q r s start rows after e (context_deltas-suc m n k done l) so h

pub context_end : (form : Bytes) (m k : ℕ) (done : List ℕ) (q r : Reader) (start rows : Rows) → m ≡ 0 → IsAtPlace r
    → Continues Range form q start (context_deltas m k done) r rows → ReadsForm Range form q start (Ok done) r rows
unfolding context_deltas
context_end form m k done q r start rows l at so =
    end_of Range form (context_deltas m k done) q r start rows done (ap (λ z. context_deltas z k done) l) at so

-- ---- contexts

abbrev Contexts : Type 0
Contexts = Form Rows (List (List ℕ)) SetupFault

unfoldable pub contexts_rest : ℕ → List (List ℕ) → List ℕ → Contexts
contexts_rest n done deltas = contexts_deltas n (done ++ deltas ∷ [])

contexts_deltas-suc : (m n : ℕ) (done : List (List ℕ)) → m ≡ suc n → contexts_deltas m done ≡ (context_deltas 32 0 [] >>= contexts_rest n done)
unfolding contexts_deltas contexts_rest
contexts_deltas-suc m n done l = ap (λ z. contexts_deltas z done) l

pub contexts_turn : (form : Contexts) (m n : ℕ) (done : List (List ℕ)) (deltas : List ℕ) (q r s : Reader) (start rows after : Rows) → m ≡ suc n
    → Continues Range form q start (contexts_deltas m done) r rows → ReadsForm Range (context_deltas 32 0 []) r rows (Ok deltas) s after
    → Continues Range form q start (contexts_deltas n (done ++ deltas ∷ [])) s after
unfolding contexts_rest
contexts_turn form m n done deltas q r s start rows after l so h =
    next_of Range form (contexts_deltas m done) (context_deltas 32 0 []) (contexts_rest n done) q r s start rows after deltas
    (contexts_deltas-suc m n done l) so h

pub contexts_fails : (form : Contexts) (m n : ℕ) (done : List (List ℕ)) (e : SetupFault) (q r s : Reader) (start rows after : Rows) → m ≡ suc n
    → Continues Range form q start (contexts_deltas m done) r rows → ReadsForm Range (context_deltas 32 0 []) r rows (Err e) s after
    → form_at Range form q start ≡ Err e
contexts_fails form m n done e q r s start rows after l so h =
    stop_of Range form (contexts_deltas m done) (context_deltas 32 0 []) (contexts_rest n done) q r s start rows after e (contexts_deltas-suc m n done l) so h

pub contexts_end : (form : Contexts) (m : ℕ) (done : List (List ℕ)) (q r : Reader) (start rows : Rows) → m ≡ 0 → IsAtPlace r
    → Continues Range form q start (contexts_deltas m done) r rows → ReadsForm Range form q start (Ok done) r rows
unfolding contexts_deltas
contexts_end form m done q r start rows l at so =
    end_of Range form (contexts_deltas m done) q r start rows done (ap (λ z. contexts_deltas z done) l) at so

-- ---- the states of contexts

-- before the first context all states are 128
pub context_states-nil : context_states [] ≡ fresh_row
unfolding context_states
context_states-nil = refl

pub initial_states-nil : initial_states [] ≡ []
unfolding initial_states
initial_states-nil = refl

-- the states of one more context
pub context_states-more : (contexts : List (List ℕ)) (deltas : List ℕ) → context_states (contexts ++ deltas ∷ []) ≡ states_with (context_states contexts) deltas
unfolding context_states states_with
context_states-more contexts deltas =
    let before : List ℕ = map (initial_state contexts) (range_with_len 0 32) in
    sym (fill_by_all (initial_state (contexts ++ deltas ∷ [])) (map (state_with before deltas) (range_with_len 0 32)) 32 0
    (length-map-range_with_len (state_with before deltas) 0 32)
    (λ k h.
    get_or-map-range_with_len (state_with before deltas) 0 32 k k 0 h (omega arith)
    ∙ ap (λ z. (z + slice_index deltas k) % 256) (get_or-map-range_with_len (initial_state contexts) 0 32 k k 0 h (omega arith))
    ∙ one_more (λ deltas. slice_index deltas k) contexts deltas))
  where
    one_more : (f : List ℕ → ℕ) (contexts : List (List ℕ)) (deltas : List ℕ)
        → ((128 + sum_by f contexts) % 256 + f deltas) % 256 ≡ (128 + sum_by f (contexts ++ deltas ∷ [])) % 256
    one_more f contexts deltas = let sum = sum_by-append f contexts (deltas ∷ []) in omega arith

-- the states so far, and those of one more context
pub initial_states-more : (contexts : List (List ℕ)) (deltas : List ℕ)
    → initial_states (contexts ++ deltas ∷ []) ≡ initial_states contexts ++ context_states (contexts ++ deltas ∷ []) ∷ []
unfolding initial_states
initial_states-more contexts deltas =
    let all : List (List ℕ) = contexts ++ deltas ∷ [] in
    let at_place = λ (j : ℕ). context_states (take (j + 1) all) in
    let size : length all ≡ length contexts + 1 = length-append contexts (deltas ∷ []) in
    ap (λ n. map at_place (range_with_len 0 n)) size
    ∙ map-range_with_len_more at_place 0 (length contexts) (length contexts) (omega arith)
    ∙ ap (λ z. z ++ at_place (length contexts) ∷ []) (sym same)
    ∙ ap (λ z. map (λ j. context_states (take (j + 1) contexts)) (range_with_len 0 (length contexts)) ++ context_states z ∷ [])
    (take_all (length contexts + 1) all (omega arith))
  where
    same : map (λ j. context_states (take (j + 1) contexts)) (range_with_len 0 (length contexts))
        ≡ map (λ j. context_states (take (j + 1) (contexts ++ deltas ∷ []))) (range_with_len 0 (length contexts))
    same =
        fill_by_all (λ j. context_states (take (j + 1) (contexts ++ deltas ∷ []))) (map (λ j. context_states (take (j + 1) contexts)) (range_with_len 0 (length contexts)))
        (length contexts) []
        (length-map-range_with_len (λ j. context_states (take (j + 1) contexts)) 0 (length contexts))
        (λ k h.
        get_or-map-range_with_len (λ j. context_states (take (j + 1) contexts)) 0 (length contexts) k k [] h (omega arith)
        ∙ ap context_states (sym (take-append-le (k + 1) contexts (deltas ∷ []) (omega arith))))

pub length-initial_states : (contexts : List (List ℕ)) → length (initial_states contexts) ≡ length contexts
unfolding initial_states
length-initial_states contexts = length-map-range_with_len (λ j. context_states (take (j + 1) contexts)) 0 (length contexts)

-- ---- the sets of a record

abbrev pub SetsForm : Type 0
SetsForm = Form TwoRows (List StatesValue) SetupFault

unfoldable pub sets_rest : (ℕ → Bool) → Bool → List ℕ → List StatesValue → StatesValue → SetsForm
sets_rest granted keeps sets done states = sets_states granted keeps sets (done ++ states ∷ [])

sets_states-cons : (granted : ℕ → Bool) (keeps : Bool) (all sets : List ℕ) (contexts : ℕ) (done : List StatesValue) (one : Bool)
    → all ≡ contexts ∷ sets → granted (length done) ≡ one
    → sets_states granted keeps all done ≡ (set_states one keeps contexts >>= sets_rest granted keeps sets done)
unfolding sets_states sets_rest
sets_states-cons granted keeps all sets contexts done one l g =
    ap (λ z. sets_states granted keeps z done) l ∙ ap (λ b. set_states b keeps contexts >>= sets_rest granted keeps sets done) g

pub sets_turn : (granted : ℕ → Bool) (keeps : Bool) (form : SetsForm) (all sets : List ℕ) (contexts : ℕ) (done : List StatesValue) (states : StatesValue)
    (q r s : Reader) (start rows after : TwoRows)
    → all ≡ contexts ∷ sets → granted (length done) ≡ true
    → Continues Range form q start (sets_states granted keeps all done) r rows → ReadsForm Range (set_states true keeps contexts) r rows (Ok states) s after
    → Continues Range form q start (sets_states granted keeps sets (done ++ states ∷ [])) s after
unfolding sets_rest
sets_turn granted keeps form all sets contexts done states q r s start rows after l g so h =
    next_of Range form (sets_states granted keeps all done) (set_states true keeps contexts) (sets_rest granted keeps sets done) q r s start rows after states
    (sets_states-cons granted keeps all sets contexts done true l g) so h

pub sets_fail : (granted : ℕ → Bool) (keeps : Bool) (form : SetsForm) (all sets : List ℕ) (contexts : ℕ) (done : List StatesValue) (one : Bool)
    (e : SetupFault) (q r : Reader) (start rows : TwoRows)
    → all ≡ contexts ∷ sets → granted (length done) ≡ one
    → Continues Range form q start (sets_states granted keeps all done) r rows → form_at Range (set_states one keeps contexts) r rows ≡ Err e
    → form_at Range form q start ≡ Err e
sets_fail granted keeps form all sets contexts done one e q r start rows l g so h =
    stop_of Range form (sets_states granted keeps all done) (set_states one keeps contexts) (sets_rest granted keeps sets done) q r r start rows rows e
    (sets_states-cons granted keeps all sets contexts done one l g) so h

pub sets_end : (granted : ℕ → Bool) (keeps : Bool) (form : SetsForm) (all : List ℕ) (done : List StatesValue) (q r : Reader) (start rows : TwoRows)
    → all ≡ [] → IsAtPlace r
    → Continues Range form q start (sets_states granted keeps all done) r rows → ReadsForm Range form q start (Ok done) r rows
unfolding sets_states
sets_end granted keeps form all done q r start rows l at so =
    end_of Range form (sets_states granted keeps all done) q r start rows done (ap (λ z. sets_states granted keeps z done) l) at so

pub states_fail : (granted : ℕ → Bool) (keeps : Bool) (contexts : List ℕ) (e : SetupFault) (r : Reader) (row : List ℕ)
    → form_at Range (sets_states granted keeps contexts []) r (row, fresh_rows) ≡ Err e
    → form_at Range (states_form granted keeps contexts) r row ≡ Err e
states_fail granted keeps contexts e r row h =
    read_on Range beside_fresh_rows record_row_after (sets_states granted keeps contexts []) r r row (row, fresh_rows) (Err e) h

pub states_read : (granted : ℕ → Bool) (keeps : Bool) (contexts : List ℕ) (states : List StatesValue) (r s : Reader) (row after : List ℕ) (rows : Rows)
    → ReadsForm Range (sets_states granted keeps contexts []) r (row, fresh_rows) (Ok states) s (after, rows)
    → ReadsForm Range (states_form granted keeps contexts) r row (Ok states) s after
states_read granted keeps contexts states r s row after rows h =
    read_on Range beside_fresh_rows record_row_after (sets_states granted keeps contexts []) r s row (after, rows) (Ok states) h
