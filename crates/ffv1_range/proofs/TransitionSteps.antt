-- The transition deltas of a record, read one by one.
use Rattle.std.proofs.Common.{◌≡◌, ◌≢◌, ℕ, suc, List, [], ◌∷◌, ◌++◌, Ok, Err, ap}
use Rattle.std.specs.Prelude.{ℤ, replicate, if◌then◌else◌}
use Rattle.std.proofs.lemmas.Bool.{eq-eqb, ne_eqb}
use Rattle.ffv1_range.specs.Decoder.{Reader}
use Rattle.ffv1_range.specs.Forms.{Form, ◌>>=◌, giving, lifted, form_at, ReadsForm, same_fault}
use Rattle.ffv1_range.specs.Fields.{deltas_onto, transition_deltas}
use Rattle.ffv1_range.specs.Reading.{signed_symbol_form}
use Rattle.ffv1_range.specs.Transitions.{delta_byte}
use Rattle.ffv1_range.specs.declared.coding.RangeFault.{RangeFault}
use Rattle.ffv1_range.specs.declared.fault.SetupFault.{SetupFault}
use Rattle.ffv1_range.specs.declared.fault.SetupFault.TheVariants.{Range}
use Rattle.ffv1_range.proofs.Forms.{Continues, IsAtPlace, next_of, stop_of, end_of, read_lifted, fault_lifted}

abbrev Deltas : Type 0
Deltas = Form (List ℕ) (List ℕ) SetupFault

unfoldable pub more_deltas : ℕ → List ℕ → ℤ → Deltas
more_deltas n done delta = deltas_onto n (done ++ delta_byte delta ∷ [])

deltas_onto-suc : (m n : ℕ) (done : List ℕ) → m ≡ suc n → deltas_onto m done ≡ (lifted Range signed_symbol_form >>= more_deltas n done)
unfolding deltas_onto more_deltas
deltas_onto-suc m n done l = ap (λ z. deltas_onto z done) l

pub delta_turn : (form : Deltas) (m n : ℕ) (done : List ℕ) (delta : ℤ) (q r s : Reader) (start row after : List ℕ) → m ≡ suc n
    → Continues Range form q start (deltas_onto m done) r row → ReadsForm same_fault signed_symbol_form r row (Ok delta) s after
    → Continues Range form q start (deltas_onto n (done ++ delta_byte delta ∷ [])) s after
unfolding more_deltas
delta_turn form m n done delta q r s start row after l so h =
    next_of Range form (deltas_onto m done) (lifted Range signed_symbol_form) (more_deltas n done) q r s start row after delta (deltas_onto-suc m n done l) so
    (read_lifted Range signed_symbol_form r s row after delta h)

pub delta_fails : (form : Deltas) (m n : ℕ) (done : List ℕ) (e : RangeFault) (q r s : Reader) (start row after : List ℕ) → m ≡ suc n
    → Continues Range form q start (deltas_onto m done) r row → ReadsForm same_fault signed_symbol_form r row (Err e) s after
    → form_at Range form q start ≡ Err (Range e)
delta_fails form m n done e q r s start row after l so h =
    stop_of Range form (deltas_onto m done) (lifted Range signed_symbol_form) (more_deltas n done) q r s start row after (Range e)
    (deltas_onto-suc m n done l) so (fault_lifted Range signed_symbol_form r s row after e h)

pub deltas_end : (form : Deltas) (m : ℕ) (done : List ℕ) (q r : Reader) (start row : List ℕ) → m ≡ 0 → IsAtPlace r
    → Continues Range form q start (deltas_onto m done) r row → ReadsForm Range form q start (Ok done) r row
unfolding deltas_onto
deltas_end form m done q r start row l at so = end_of Range form (deltas_onto m done) q r start row done (ap (λ z. deltas_onto z done) l) at so

-- they are read with coder_type 2 alone

pub transition_deltas-coded : (coder : ℕ) → coder ≡ 2 → transition_deltas coder ≡ deltas_onto 255 []
transition_deltas-coded coder h = ap (λ b. if b then deltas_onto 255 [] else giving (replicate 255 0)) (eq-eqb coder 2 h)

pub transition_deltas-none : (coder : ℕ) → coder ≢ 2 → transition_deltas coder ≡ giving (replicate 255 0)
transition_deltas-none coder h = ap (λ b. if b then deltas_onto 255 [] else giving (replicate 255 0)) (ne_eqb coder 2 h)
