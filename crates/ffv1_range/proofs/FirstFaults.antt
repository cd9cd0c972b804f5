-- A refusal of a record is the first fault that it has, or Memory; and one of the profile wants memory for its sets alone.
use Rattle.std.proofs.Common.{◌≡◌, ℕ, Bool, true, false, List, [], ◌∷◌, ◌++◌, length, Result, Ok, Err, sym, ap, ◌∙◌, refl, inl, inr}
use Rattle.std.specs.Prelude.{◌⊎◌, ◌&&◌, not, map, if◌then◌else◌}
use Rattle.std.proofs.lemmas.Bool.{eqb-true, eq-eqb}
use Rattle.ffv1_range.specs.Results.{◌>>>◌}
use Rattle.ffv1_range.specs.Coding.{Mode, record_mode, Coder, PlaceOf, Place, start_of}
use Rattle.ffv1_range.specs.Forms.{giving, on, apart, from_place}
use Rattle.ffv1_range.specs.Fields.{flag}
use Rattle.ffv1_range.specs.Tables.{SetValue}
use Rattle.ffv1_range.specs.InitialStates.{StatesValue, uncoded_states, keeps_states}
use Rattle.ffv1_range.specs.TableForms.{TwoRows, record_row, with_record_row, fresh_row, fresh_rows, sets_from, kept_states, set_states, sets_states, states_form}
use Rattle.ffv1_range.specs.Setup.{RecordingValue}
use Rattle.ffv1_range.specs.SetupForms.{Grants, all_granted, record_read, record_form, FrontValue, front_form, checked_content, is_size}
use Rattle.ffv1_range.specs.declared.scope.Scope.{Scope}
use Rattle.ffv1_range.specs.declared.scope.Scope.TheVariants.{Profile}
use Rattle.ffv1_range.specs.declared.coding.RangeFault.{RangeFault}
use Rattle.ffv1_range.specs.declared.fault.SetupFault.{SetupFault}
use Rattle.ffv1_range.specs.declared.fault.SetupFault.TheVariants.{Range, Memory, Size}
use Rattle.ffv1_range.proofs.FieldRuns.{Plan, followed, Taken, fields_of, value_of, Each, Each-at, plan-found, front_plan, front_form-plan}
use Rattle.ffv1_range.proofs.Forms.{place_of}
use Rattle.ffv1_range.proofs.SetupSteps.{front_rest, memory_rest, sets_rest, states_rest, last_rest}

-- ---- what differs where memory is refused

-- what reading gives where some memory is granted, and where all is
abbrev pub IsOrMemory : {A : Type 0} → Result A SetupFault → Result A SetupFault → Type 0
IsOrMemory some all = (some ≡ Err Memory) ⊎ (some ≡ all)

bind_or : {A B : Type 0} (r s : Result A SetupFault) (f g : A → Result B SetupFault) → IsOrMemory r s → ((x : A) → IsOrMemory (f x) (g x))
    → IsOrMemory (r >>> f) (s >>> g)
bind_or r s f g (inl memory) h = inl (ap (λ z. z >>> f) memory)
bind_or (Ok x) s f g (inr same) h =
    elim (h x) [
      | inl memory ↦ inl memory
      | inr also ↦ inr (also ∙ ap (λ z. z >>> g) same)
    ]
bind_or (Err e) s f g (inr same) h = inr (ap (λ z. z >>> g) same)

kept_or : (granted keeps : Bool) (contexts : ℕ) (mode : Mode) (p : PlaceOf TwoRows)
    → IsOrMemory (kept_states granted keeps contexts mode p) (kept_states true keeps contexts mode p)
kept_or true keeps contexts mode p = inr refl
kept_or false true contexts mode p = inl refl
kept_or false false contexts mode p = inr refl

coded_or : (granted keeps : Bool) (contexts : ℕ) (coded : Bool) (mode : Mode) (p : PlaceOf TwoRows)
    → IsOrMemory ((if coded then kept_states granted keeps contexts else giving uncoded_states) mode p)
    ((if coded then kept_states true keeps contexts else giving uncoded_states) mode p)
coded_or granted keeps contexts true mode p = kept_or granted keeps contexts mode p
coded_or granted keeps contexts false mode p = inr refl

set_or : (granted keeps : Bool) (contexts : ℕ) (mode : Mode) (p : PlaceOf TwoRows)
    → IsOrMemory (set_states granted keeps contexts mode p) (set_states true keeps contexts mode p)
set_or granted keeps contexts mode p =
    bind_or (on record_row with_record_row flag mode p) (on record_row with_record_row flag mode p)
    (λ x. (if x.0 then kept_states granted keeps contexts else giving uncoded_states) mode x.1)
    (λ x. (if x.0 then kept_states true keeps contexts else giving uncoded_states) mode x.1)
    (inr refl) (λ x. coded_or granted keeps contexts x.0 mode x.1)

sets_or : (granted : ℕ → Bool) (keeps : Bool) (sets : List ℕ) (done : List StatesValue) (mode : Mode) (p : PlaceOf TwoRows)
    → IsOrMemory (sets_states granted keeps sets done mode p) (sets_states (λ set. true) keeps sets done mode p)
unfolding sets_states
sets_or granted keeps [] done mode p = inr refl
sets_or granted keeps (contexts ∷ sets) done mode p =
    bind_or (set_states (granted (length done)) keeps contexts mode p) (set_states true keeps contexts mode p)
    (λ x. sets_states granted keeps sets (done ++ x.0 ∷ []) mode x.1) (λ x. sets_states (λ set. true) keeps sets (done ++ x.0 ∷ []) mode x.1)
    (set_or (granted (length done)) keeps contexts mode p) (λ x. sets_or granted keeps sets (done ++ x.0 ∷ []) mode x.1)

states_or : (granted : ℕ → Bool) (keeps : Bool) (contexts : List ℕ) (mode : Mode) (p : Place)
    → IsOrMemory (states_form granted keeps contexts mode p) (states_form (λ set. true) keeps contexts mode p)
states_or granted keeps contexts mode p =
    bind_or (sets_states granted keeps contexts [] mode (place_of p.coder (p.states, fresh_rows)))
    (sets_states (λ set. true) keeps contexts [] mode (place_of p.coder (p.states, fresh_rows)))
    (λ x. Ok (x.0, place_of x.1.coder x.1.states.0)) (λ x. Ok (x.0, place_of x.1.coder x.1.states.0))
    (sets_or granted keeps contexts [] mode (place_of p.coder (p.states, fresh_rows))) (λ x. inr refl)

sets_form_or : (granted : ℕ → Bool) (scope : Scope) (width height : ℕ) (front : FrontValue) (sets : List SetValue) (p : Place)
    → IsOrMemory (sets_rest granted scope width height front sets record_mode p) (sets_rest (λ set. true) scope width height front sets record_mode p)
unfolding sets_rest
sets_form_or granted scope width height front sets p =
    let keeps : Bool = keeps_states front.shape.coder in
    bind_or (states_form granted keeps (map (λ set. set.contexts) sets) record_mode p)
    (states_form (λ set. true) keeps (map (λ set. set.contexts) sets) record_mode p)
    (λ x. states_rest scope width height front sets x.0 record_mode x.1) (λ x. states_rest scope width height front sets x.0 record_mode x.1)
    (states_or granted keeps (map (λ set. set.contexts) sets) record_mode p) (λ x. inr refl)

front_or : (sets : Bool) (states : ℕ → Bool) (scope : Scope) (width height : ℕ) (front : FrontValue) (p : Place)
    → IsOrMemory (front_rest (record { sets = sets; states = states }) scope width height front record_mode p)
    (front_rest all_granted scope width height front record_mode p)
unfolding front_rest memory_rest
front_or false states scope width height front p = inl refl
front_or true states scope width height front p =
    bind_or (apart tt (sets_from front.sets []) record_mode p) (apart tt (sets_from front.sets []) record_mode p)
    (λ x. sets_rest states scope width height front x.0 record_mode x.1) (λ x. sets_rest (λ set. true) scope width height front x.0 record_mode x.1)
    (inr refl) (λ x. sets_form_or states scope width height front x.0 x.1)

form_or : (granted : Grants) (scope : Scope) (width height : ℕ) (p : Place)
    → IsOrMemory (record_form granted scope width height record_mode p) (record_form all_granted scope width height record_mode p)
unfolding front_rest memory_rest sets_rest states_rest last_rest
form_or granted scope width height p =
    bind_or (front_form scope width height record_mode p) (front_form scope width height record_mode p)
    (λ x. front_rest granted scope width height x.0 record_mode x.1) (λ x. front_rest all_granted scope width height x.0 record_mode x.1)
    (inr refl) (λ x. front_or granted.sets granted.states scope width height x.0 x.1)

at_start : Grants → Scope → ℕ → ℕ → Result Coder RangeFault → Result (RecordingValue × Place) SetupFault
at_start granted scope width height at = from_place Range at (λ c. record_form granted scope width height record_mode (place_of c fresh_row))

start_or : (granted : Grants) (scope : Scope) (width height : ℕ) (at : Result Coder RangeFault)
    → IsOrMemory (at_start granted scope width height at) (at_start all_granted scope width height at)
unfolding at_start
start_or granted scope width height (Ok c) = form_or granted scope width height (place_of c fresh_row)
start_or granted scope width height (Err e) = inr refl

sized : Grants → Scope → ℕ → ℕ → Bool → List ℕ → Result RecordingValue SetupFault
sized granted scope width height fits content = if fits then (at_start granted scope width height (start_of true content) >>> λ x. Ok x.0) else Err Size

sized_or : (granted : Grants) (scope : Scope) (width height : ℕ) (fits : Bool) (content : List ℕ)
    → IsOrMemory (sized granted scope width height fits content) (sized all_granted scope width height fits content)
unfolding sized
sized_or granted scope width height true content =
    bind_or (at_start granted scope width height (start_of true content)) (at_start all_granted scope width height (start_of true content))
    (λ x. Ok x.0) (λ x. Ok x.0) (start_or granted scope width height (start_of true content)) (λ x. inr refl)
sized_or granted scope width height false content = inr refl

pub read_or : (config : List ℕ) (scope : Scope) (width height : ℕ) (granted : Grants)
    → IsOrMemory (record_read granted config scope width height) (record_read all_granted config scope width height)
unfolding sized at_start
read_or config scope width height granted =
    bind_or (checked_content config) (checked_content config) (sized granted scope width height (is_size width && is_size height))
    (sized all_granted scope width height (is_size width && is_size height))
    (inr refl) (λ content. sized_or granted scope width height (is_size width && is_size height) content)

pub first_fault : (config : List ℕ) (scope : Scope) (width height : ℕ) (granted : Grants) (f : SetupFault)
    → record_read granted config scope width height ≡ Err f → (f ≡ Memory)
    ⊎ (record_read all_granted config scope width height ≡ Err f)
first_fault config scope width height granted f h =
    elim (read_or config scope width height granted) [
      | inl memory ↦ inl (same_err f Memory (sym h ∙ memory))
      | inr same ↦ inr (sym same ∙ h)
    ]
  where
    same_err : (a b : SetupFault) → ◌≡◌ {A = Result RecordingValue SetupFault} (Err a) (Err b) → a ≡ b
    same_err a b h = cc

-- ---- a record of the profile

-- its coder_type is 0
profile-coder : (width height : ℕ) (p : Place) (x : FrontValue × Place) → front_form Profile width height record_mode p ≡ Ok x → x.0.shape.coder ≡ 0
unfolding followed Taken Each fields_of value_of
profile-coder width height p x h =
    let plan : Plan FrontValue = front_plan Profile width height in
    let f = plan-found plan record_mode p x (ap (λ f. f record_mode p) (front_form-plan Profile width height) ∙ h) in
    sym (ap (λ z. z.shape.coder) f.1)
    ∙ Each-at plan (λ t. (value_of plan t).shape.coder ≡ 0)
    (λ version _ is_three micro small_micro is_late coder small_coder is_coder deltas size_deltas small_deltas space small_space is_space
    depth small_depth is_depth chroma has_chroma shift_h small_h fits_h shift_v small_v fits_v extra is_extra
    across _ down _ is_coarse are_few count _ is_some is_few. eqb-true coder 0 is_coder) f.0

-- the same reading where what follows a value that was read is the same
bind_same : {A B : Type 0} (r : Result A SetupFault) (f g : A → Result B SetupFault) → ((x : A) → r ≡ Ok x → f x ≡ g x) → (r >>> f) ≡ (r >>> g)
bind_same (Ok x) f g h = h x refl
bind_same (Err e) f g h = refl

kept_same : (granted : Bool) (contexts : ℕ) (mode : Mode) (p : PlaceOf TwoRows) → kept_states granted false contexts mode p ≡ kept_states true false contexts mode p
kept_same true contexts mode p = refl
kept_same false contexts mode p = refl

coded_same : (granted : Bool) (contexts : ℕ) (coded : Bool) (mode : Mode) (p : PlaceOf TwoRows)
    → (if coded then kept_states granted false contexts else giving uncoded_states) mode p
    ≡ (if coded then kept_states true false contexts else giving uncoded_states) mode p
coded_same granted contexts true mode p = kept_same granted contexts mode p
coded_same granted contexts false mode p = refl

sets_same : (granted : ℕ → Bool) (sets : List ℕ) (done : List StatesValue) (mode : Mode) (p : PlaceOf TwoRows)
    → sets_states granted false sets done mode p ≡ sets_states (λ set. true) false sets done mode p
unfolding sets_states
sets_same granted [] done mode p = refl
sets_same granted (contexts ∷ sets) done mode p =
    ap (λ z. z >>> λ x. sets_states granted false sets (done ++ x.0 ∷ []) mode x.1)
    (bind_same (on record_row with_record_row flag mode p)
    (λ x. (if x.0 then kept_states (granted (length done)) false contexts else giving uncoded_states) mode x.1)
    (λ x. (if x.0 then kept_states true false contexts else giving uncoded_states) mode x.1)
    (λ x _. coded_same (granted (length done)) contexts x.0 mode x.1))
    ∙ bind_same (set_states true false contexts mode p) (λ x. sets_states granted false sets (done ++ x.0 ∷ []) mode x.1)
    (λ x. sets_states (λ set. true) false sets (done ++ x.0 ∷ []) mode x.1)
    (λ x _. sets_same granted sets (done ++ x.0 ∷ []) mode x.1)

-- states that are dropped want no memory
dropped_same : (granted : ℕ → Bool) (keeps : Bool) (contexts : List ℕ) (p : Place) → keeps ≡ false
    → states_form granted keeps contexts record_mode p ≡ states_form (λ set. true) keeps contexts record_mode p
dropped_same granted keeps contexts p h =
    ap (λ b. states_form granted b contexts record_mode p) h
    ∙ ap (λ z. z >>> λ x. Ok (x.0, place_of x.1.coder x.1.states.0)) (sets_same granted contexts [] record_mode (place_of p.coder (p.states, fresh_rows)))
    ∙ ap (λ b. states_form (λ set. true) b contexts record_mode p) (sym h)

-- memory for the sets of a record, and for all states
abbrev pub sets_granted : Bool → Grants
sets_granted sets = record { sets = sets; states = λ set. true }

front_same : (sets : Bool) (states : ℕ → Bool) (width height : ℕ) (front : FrontValue) (p : Place) → keeps_states front.shape.coder ≡ false
    → front_rest (record { sets = sets; states = states }) Profile width height front record_mode p
    ≡ front_rest (sets_granted sets) Profile width height front record_mode p
unfolding front_rest memory_rest sets_rest
front_same false states width height front p h = refl
front_same true states width height front p h =
    bind_same (apart tt (sets_from front.sets []) record_mode p)
    (λ x. sets_rest states Profile width height front x.0 record_mode x.1) (λ x. sets_rest (λ set. true) Profile width height front x.0 record_mode x.1)
    (λ x _. ap (λ z. z >>> λ y. states_rest Profile width height front x.0 y.0 record_mode y.1)
    (dropped_same states (keeps_states front.shape.coder) (map (λ set. set.contexts) x.0) x.1 h))

form_same : (granted : Grants) (width height : ℕ) (p : Place)
    → record_form granted Profile width height record_mode p ≡ record_form (sets_granted granted.sets) Profile width height record_mode p
unfolding front_rest memory_rest sets_rest states_rest last_rest
form_same granted width height p =
    bind_same (front_form Profile width height record_mode p) (λ x. front_rest granted Profile width height x.0 record_mode x.1)
    (λ x. front_rest (sets_granted granted.sets) Profile width height x.0 record_mode x.1)
    (λ x h. front_same granted.sets granted.states width height x.0 x.1
    (ap not (eq-eqb x.0.shape.coder 0 (profile-coder width height p x h))))

start_same : (granted : Grants) (width height : ℕ) (at : Result Coder RangeFault)
    → at_start granted Profile width height at ≡ at_start (sets_granted granted.sets) Profile width height at
unfolding at_start
start_same granted width height (Ok c) = form_same granted width height (place_of c fresh_row)
start_same granted width height (Err e) = refl

sized_same : (granted : Grants) (width height : ℕ) (fits : Bool) (content : List ℕ)
    → sized granted Profile width height fits content ≡ sized (sets_granted granted.sets) Profile width height fits content
unfolding sized
sized_same granted width height true content = ap (λ z. z >>> λ x. Ok x.0) (start_same granted width height (start_of true content))
sized_same granted width height false content = refl

-- A record of the profile wants memory for its sets alone.
pub profile_read : (config : List ℕ) (width height : ℕ) (granted : Grants)
    → record_read granted config Profile width height ≡ record_read (sets_granted granted.sets) config Profile width height
unfolding sized at_start
profile_read config width height granted =
    bind_same (checked_content config) (sized granted Profile width height (is_size width && is_size height))
    (sized (sets_granted granted.sets) Profile width height (is_size width && is_size height))
    (λ content _. sized_same granted width height (is_size width && is_size height) content)
