-- A configuration record read part by part.
use Rattle.std.proofs.Common.{◌≡◌, ℕ, Bool, true, false, List, [], ◌∷◌, Result, Ok, Err, refl, sym, ap, ◌∙◌, subst, length}
use Rattle.std.specs.Prelude.{map, ◌&&◌, if◌then◌else◌}
use Rattle.ffv1_range.specs.Results.{◌>>>◌}
use Rattle.ffv1_range.specs.Coding.{record_mode, Coder, Place, start_of}
use Rattle.ffv1_range.specs.Decoder.{Reader, Starts}
use Rattle.ffv1_range.specs.Forms.{Form, ◌>>=◌, giving, accepted, apart, from_place, form_at, ReadsForm}
use Rattle.ffv1_range.specs.Fields.{last_fields}
use Rattle.ffv1_range.specs.Tables.{SetValue}
use Rattle.ffv1_range.specs.TableForms.{fresh_row, sets_from, states_form}
use Rattle.ffv1_range.specs.InitialStates.{StatesValue, keeps_states}
use Rattle.ffv1_range.specs.Setup.{RecordingValue}
use Rattle.ffv1_range.specs.Views.{set_values}
use Rattle.ffv1_range.specs.Inner.Views.{contexts_of}
use Rattle.ffv1_range.specs.declared.tables.TableSet.{TableSet}
use Rattle.ffv1_range.specs.SetupForms.{FrontValue, front_form, recording_of, Grants, all_granted, record_form, checked_content, is_size, record_read}
use Rattle.ffv1_range.specs.declared.scope.Scope.{Scope}
use Rattle.ffv1_range.specs.declared.coding.RangeFault.{RangeFault}
use Rattle.ffv1_range.specs.declared.fault.SetupFault.{SetupFault}
use Rattle.ffv1_range.specs.declared.fault.SetupFault.TheVariants.{Range, Memory, Size}
use Rattle.ffv1_range.proofs.Forms.{Continues, bind_ok, bind_err, place_of, continue_start, continue_next, continue_stop, continue_end, continue_give, continue_accepted, refused, read_on, at_ok}

-- ---- before the fields

-- Length, parity and size are right, and the decoder is at the start of the content.
pub record IsOpened (config : List ℕ) (width height : ℕ) (r : Reader) : Type 0 where
  pub content : List ℕ
  pub checked : checked_content config ≡ Ok content
  pub is_width : is_size width ≡ true
  pub is_height : is_size height ≡ true
  pub start : Coder
  pub started : start_of true content ≡ Ok start
  pub reader : r ≡ record { mode = record_mode; total = length content; at = Ok start }

unfoldable pub value_of : Result (RecordingValue × Place) SetupFault → Result RecordingValue SetupFault
value_of outcome = outcome >>> λ x. Ok x.0

-- what the record gives once it is opened
unfoldable pub fields_read : Grants → Scope → ℕ → ℕ → List ℕ → Result RecordingValue SetupFault
fields_read granted scope width height content = value_of (from_place Range (start_of true content)
    (λ c. record_form granted scope width height record_mode (place_of c fresh_row)))

unfoldable pub sized : Grants → Bool → Bool → Scope → ℕ → ℕ → List ℕ → Result RecordingValue SetupFault
sized granted is_width is_height scope width height content = if is_width && is_height then fields_read granted scope width height content else Err Size

pub not_checked : (granted : Grants) (config : List ℕ) (scope : Scope) (width height : ℕ) (e : SetupFault) → checked_content config ≡ Err e
    → record_read granted config scope width height ≡ Err e
unfolding sized fields_read value_of
not_checked granted config scope width height e h = bind_err (checked_content config) (sized granted (is_size width) (is_size height) scope width height) e h

pub width_refused : (granted : Grants) (config content : List ℕ) (scope : Scope) (width height : ℕ) → checked_content config ≡ Ok content → is_size width ≡ false
    → record_read granted config scope width height ≡ Err Size
unfolding sized fields_read value_of
width_refused granted config content scope width height h w =
    bind_ok (checked_content config) (sized granted (is_size width) (is_size height) scope width height) content h
    ∙ ap (λ z. sized granted z (is_size height) scope width height content) w

pub height_refused : (granted : Grants) (config content : List ℕ) (scope : Scope) (width height : ℕ) → checked_content config ≡ Ok content → is_size width ≡ true
    → is_size height ≡ false
    → record_read granted config scope width height ≡ Err Size
unfolding sized fields_read value_of
height_refused granted config content scope width height h w v =
    bind_ok (checked_content config) (sized granted (is_size width) (is_size height) scope width height) content h
    ∙ ap (λ z. sized granted z (is_size height) scope width height content) w
    ∙ ap (λ z. sized granted true z scope width height content) v

pub sized_read : (granted : Grants) (config content : List ℕ) (scope : Scope) (width height : ℕ) → checked_content config ≡ Ok content → is_size width ≡ true
    → is_size height ≡ true
    → record_read granted config scope width height ≡ fields_read granted scope width height content
unfolding sized fields_read value_of
sized_read granted config content scope width height h w v =
    bind_ok (checked_content config) (sized granted (is_size width) (is_size height) scope width height) content h
    ∙ ap (λ z. sized granted z (is_size height) scope width height content) w
    ∙ ap (λ z. sized granted true z scope width height content) v

pub start_refused : (granted : Grants) (config content : List ℕ) (scope : Scope) (width height : ℕ) (f : RangeFault) → checked_content config ≡ Ok content
    → is_size width ≡ true → is_size height ≡ true
    → start_of true content ≡ Err f → record_read granted config scope width height ≡ Err (Range f)
unfolding fields_read value_of
start_refused granted config content scope width height f h w v s =
    sized_read granted config content scope width height h w v
    ∙ ap (λ z. value_of (from_place Range z (λ c. record_form granted scope width height record_mode (place_of c fresh_row)))) s

pub opened_read : (granted : Grants) (config : List ℕ) (scope : Scope) (width height : ℕ) (r : Reader) (outcome : Result (RecordingValue × Place) SetupFault)
    → IsOpened config width height r
    → form_at Range (record_form granted scope width height) r fresh_row ≡ outcome → record_read granted config scope width height ≡ (outcome >>> λ x. Ok x.0)
unfolding fields_read value_of
opened_read granted config scope width height r outcome o h =
    sized_read granted config o.content scope width height o.checked o.is_width o.is_height
    ∙ ap (λ z. value_of (from_place Range z (λ c. record_form granted scope width height record_mode (place_of c fresh_row)))) o.started
    ∙ ap value_of (ap (λ z. form_at Range (record_form granted scope width height) z fresh_row) (sym o.reader) ∙ h)

-- ---- the fields

abbrev pub Recordings : Type 0
Recordings = Form (List ℕ) RecordingValue SetupFault

unfoldable pub last_rest : Scope → ℕ → ℕ → FrontValue → List SetValue → List StatesValue → ℕ × ℕ → Recordings
last_rest scope width height front sets states last =
    giving (recording_of front sets states last width height)

unfoldable pub states_rest : Scope → ℕ → ℕ → FrontValue → List SetValue → List StatesValue → Recordings
states_rest scope width height front sets states = last_fields scope >>= last_rest scope width height front sets states

unfoldable pub sets_rest : (ℕ → Bool) → Scope → ℕ → ℕ → FrontValue → List SetValue → Recordings
sets_rest granted scope width height front sets =
    states_form granted (keeps_states front.shape.coder) (map (λ set. set.contexts) sets) >>= states_rest scope width height front sets

unfoldable pub memory_rest : (ℕ → Bool) → Scope → ℕ → ℕ → FrontValue → Bool → Recordings
memory_rest granted scope width height front has_memory = apart tt (sets_from front.sets []) >>= sets_rest granted scope width height front

unfoldable pub front_rest : Grants → Scope → ℕ → ℕ → FrontValue → Recordings
front_rest granted scope width height front = accepted granted.sets Memory >>= memory_rest granted.states scope width height front

record_form-open : (granted : Grants) (scope : Scope) (width height : ℕ) (r : Reader) (row : List ℕ)
    → Continues Range (record_form granted scope width height) r row (front_form scope width height >>= front_rest granted scope width height) r row
unfolding front_rest memory_rest sets_rest states_rest last_rest
record_form-open granted scope width height r row = continue_start Range (record_form granted scope width height) r row

pub front_fails : (granted : Grants) (scope : Scope) (width height : ℕ) (e : SetupFault) (r : Reader) (row : List ℕ)
    → form_at Range (front_form scope width height) r row ≡ Err e
    → form_at Range (record_form granted scope width height) r row ≡ Err e
front_fails granted scope width height e r row h =
    continue_stop Range (record_form granted scope width height) (front_form scope width height) (front_rest granted scope width height) r r r row row row e
    (record_form-open granted scope width height r row) h

front_read : (granted : Grants) (scope : Scope) (width height : ℕ) (f : FrontValue) (r s : Reader) (row a : List ℕ)
    → ReadsForm Range (front_form scope width height) r row (Ok f) s a
    → Continues Range (record_form granted scope width height) r row (front_rest granted scope width height f) s a
front_read granted scope width height f r s row a h =
    continue_next Range (record_form granted scope width height) (front_form scope width height) (front_rest granted scope width height) r r s row row a f
    (record_form-open granted scope width height r row) h

-- memory for the sets, and for the states of some
abbrev pub states_granted : (ℕ → Bool) → Grants
states_granted states = record { sets = true; states = states }

abbrev pub none_granted : Grants
none_granted = record { sets = false; states = λ set. true }

pub memory_refused : (scope : Scope) (width height : ℕ) (f : FrontValue) (r s : Reader) (row a : List ℕ)
    → ReadsForm Range (front_form scope width height) r row (Ok f) s a
    → form_at Range (record_form none_granted scope width height) r row ≡ Err Memory
unfolding front_rest
memory_refused scope width height f r s row a h =
    refused Range (record_form none_granted scope width height) false Memory (memory_rest (λ set. true) scope width height f) r s row a refl
    (h.0, at_ok r s h.0 h.2)
    (front_read none_granted scope width height f r s row a h)

memory_granted : (states : ℕ → Bool) (scope : Scope) (width height : ℕ) (f : FrontValue) (r s : Reader) (row a : List ℕ)
    → ReadsForm Range (front_form scope width height) r row (Ok f) s a
    → Continues Range (record_form (states_granted states) scope width height) r row (apart tt (sets_from f.sets []) >>= sets_rest states scope width height f)
    s a
unfolding front_rest memory_rest
memory_granted states scope width height f r s row a h =
    continue_accepted Range (record_form (states_granted states) scope width height) true Memory (memory_rest states scope width height f) r s row a refl
    (front_read (states_granted states) scope width height f r s row a h)

pub sets_fail : (scope : Scope) (width height : ℕ) (f : FrontValue) (e : SetupFault) (r s : Reader) (row a : List ℕ)
    → ReadsForm Range (front_form scope width height) r row (Ok f) s a
    → form_at Range (sets_from f.sets []) s tt ≡ Err e → form_at Range (record_form all_granted scope width height) r row ≡ Err e
sets_fail scope width height f e r s row a h k =
    continue_stop Range (record_form all_granted scope width height) (apart tt (sets_from f.sets [])) (sets_rest (λ set. true) scope width height f) r s s
    row a a e
    (memory_granted (λ set. true) scope width height f r s row a h)
    (read_on Range (λ at_hand. tt) (λ at_hand used. at_hand) (sets_from f.sets []) s s a tt (Err e) k)

sets_read : (states : ℕ → Bool) (scope : Scope) (width height : ℕ) (f : FrontValue) (sets : List SetValue) (r s t : Reader) (row a : List ℕ)
    → ReadsForm Range (front_form scope width height) r row (Ok f) s a
    → ReadsForm Range (sets_from f.sets []) s tt (Ok sets) t tt
    → Continues Range (record_form (states_granted states) scope width height) r row
    (states_form states (keeps_states f.shape.coder) (map (λ set. set.contexts) sets) >>= states_rest scope width height f sets) t a
unfolding sets_rest
sets_read states scope width height f sets r s t row a h k =
    continue_next Range (record_form (states_granted states) scope width height) (apart tt (sets_from f.sets [])) (sets_rest states scope width height f)
    r s t row a a sets
    (memory_granted states scope width height f r s row a h)
    (read_on Range (λ at_hand. tt) (λ at_hand used. at_hand) (sets_from f.sets []) s t a tt (Ok sets) k)

pub states_fail : (states : ℕ → Bool) (scope : Scope) (width height : ℕ) (f : FrontValue) (sets : List SetValue) (keeps : Bool) (contexts : List ℕ)
    (e : SetupFault) (r s t : Reader)
    (row a : List ℕ)
    → keeps ≡ keeps_states f.shape.coder → contexts ≡ map (λ set. set.contexts) sets
    → ReadsForm Range (front_form scope width height) r row (Ok f) s a → ReadsForm Range (sets_from f.sets []) s tt (Ok sets) t tt
    → form_at Range (states_form states keeps contexts) t a ≡ Err e → form_at Range (record_form (states_granted states) scope width height) r row ≡ Err e
states_fail states scope width height f sets keeps contexts e r s t row a kept same h k l =
    continue_stop Range (record_form (states_granted states) scope width height)
    (states_form states (keeps_states f.shape.coder) (map (λ set. set.contexts) sets))
    (states_rest scope width height f sets) r t t row a a e
    (sets_read states scope width height f sets r s t row a h k)
    (subst (λ b. form_at Range (states_form states b (map (λ set. set.contexts) sets)) t a ≡ Err e) kept
    (subst (λ z. form_at Range (states_form states keeps z) t a ≡ Err e) same l))

states_read : (scope : Scope) (width height : ℕ) (f : FrontValue) (sets : List SetValue) (keeps : Bool) (contexts : List ℕ) (values : List StatesValue)
    (r s t u : Reader) (row a b : List ℕ)
    → keeps ≡ keeps_states f.shape.coder → contexts ≡ map (λ set. set.contexts) sets
    → ReadsForm Range (front_form scope width height) r row (Ok f) s a → ReadsForm Range (sets_from f.sets []) s tt (Ok sets) t tt
    → ReadsForm Range (states_form (λ set. true) keeps contexts) t a (Ok values) u b
    → Continues Range (record_form all_granted scope width height) r row (last_fields scope >>= last_rest scope width height f sets values) u b
unfolding states_rest
states_read scope width height f sets keeps contexts values r s t u row a b kept same h k l =
    continue_next Range (record_form all_granted scope width height)
    (states_form (λ set. true) (keeps_states f.shape.coder) (map (λ set. set.contexts) sets))
    (states_rest scope width height f sets) r t u row a b values
    (sets_read (λ set. true) scope width height f sets r s t row a h k)
    (subst (λ z. ReadsForm Range (states_form (λ set. true) z (map (λ set. set.contexts) sets)) t a (Ok values) u b) kept
    (subst (λ z. ReadsForm Range (states_form (λ set. true) keeps z) t a (Ok values) u b) same l))

pub last_fails : (scope : Scope) (width height : ℕ) (f : FrontValue) (sets : List SetValue) (keeps : Bool) (contexts : List ℕ) (values : List StatesValue)
    (e : SetupFault) (r s t u : Reader)
    (row a b : List ℕ)
    → keeps ≡ keeps_states f.shape.coder → contexts ≡ map (λ set. set.contexts) sets
    → ReadsForm Range (front_form scope width height) r row (Ok f) s a → ReadsForm Range (sets_from f.sets []) s tt (Ok sets) t tt
    → ReadsForm Range (states_form (λ set. true) keeps contexts) t a (Ok values) u b → form_at Range (last_fields scope) u b ≡ Err e
    → form_at Range (record_form all_granted scope width height) r row ≡ Err e
last_fails scope width height f sets keeps contexts values e r s t u row a b kept same h k l m =
    continue_stop Range (record_form all_granted scope width height) (last_fields scope) (last_rest scope width height f sets values) r u u row b b e
    (states_read scope width height f sets keeps contexts values r s t u row a b kept same h k l) m

pub all_read : (scope : Scope) (width height : ℕ) (f : FrontValue) (sets : List SetValue) (keeps : Bool) (contexts : List ℕ) (values : List StatesValue)
    (last : ℕ × ℕ) (r s t u v : Reader)
    (row a b d : List ℕ)
    → keeps ≡ keeps_states f.shape.coder → contexts ≡ map (λ set. set.contexts) sets
    → ReadsForm Range (front_form scope width height) r row (Ok f) s a → ReadsForm Range (sets_from f.sets []) s tt (Ok sets) t tt
    → ReadsForm Range (states_form (λ set. true) keeps contexts) t a (Ok values) u b → ReadsForm Range (last_fields scope) u b (Ok last) v d
    → ReadsForm Range (record_form all_granted scope width height) r row
    (Ok (recording_of f sets values last width height)) v d
unfolding last_rest
all_read scope width height f sets keeps contexts values last r s t u v row a b d kept same h k l m =
    continue_end Range (record_form all_granted scope width height) (last_rest scope width height f sets values last) r v v row d d
    (Ok (recording_of f sets values last width height))
    (continue_next Range (record_form all_granted scope width height) (last_fields scope) (last_rest scope width height f sets values) r u v row b d last
    (states_read scope width height f sets keeps contexts values r s t u row a b kept same h k l) m)
    (continue_give Range v m.0 d _ (last_rest scope width height f sets values last) (at_ok u v m.0 m.2) refl)

-- an opened record
pub opened : (config content : List ℕ) (width height : ℕ) (r : Reader) → checked_content config ≡ Ok content → is_size width ≡ true → is_size height ≡ true
    → Starts record_mode content (Ok r) → IsOpened config width height r
opened config content width height r h w v s =
    record { content = content; checked = h; is_width = w; is_height = v; start = s.0; started = s.1; reader = s.2 }

-- the code's contexts are those of its sets' values
pub contexts_of-values : (sets : List TableSet) → contexts_of sets ≡ map (λ set. set.contexts) (set_values sets)
contexts_of-values [] = refl
contexts_of-values (set ∷ sets) = ap (λ z. set.contexts ∷ z) (contexts_of-values sets)
