-- A record either says something of a recording or has one first fault, and with all memory granted that is not Memory.
use Rattle.std.proofs.Common.{◌≡◌, ◌+◌, ◌*◌, ℕ, zero, suc, Bool, true, false, List, [], ◌∷◌, ◌++◌, length, Result, Ok, Err, sym, ap, ◌∙◌, refl, inl, inr}
use Rattle.std.specs.Prelude.{◌⊎◌, ◌&&◌, ◌==◌, nat_lt, nat_le, map, replicate, if◌then◌else◌}
use Rattle.ffv1_bits.specs.Limits.{most_tiles}
use Rattle.ffv1_bits.specs.Bits.{bits_of}
use Rattle.ffv1_bits.specs.Parity.{remainder_of}
use Rattle.ffv1_range.specs.Results.{◌>>>◌}
use Rattle.ffv1_range.specs.Coding.{Mode, record_mode, Coder, PlaceOf, Place, start_of}
use Rattle.ffv1_range.specs.Forms.{◌>>=◌, giving, accepted, lifted_result, slot_form, from_place}
use Rattle.ffv1_range.specs.Reading.{symbol_form, signed_symbol_form}
use Rattle.ffv1_range.specs.Scopes.{accepts_coder, accepts_space, accepts_depth, accepts_chroma, accepts_shift, accepts_extra_plane, accepts_ec}
use Rattle.ffv1_range.specs.Transitions.{delta_byte}
use Rattle.ffv1_range.specs.Fields.{number, flag, versions, deltas_onto, coder_fields, sample_fields, chroma_fields, extra_field, shape_fields, tile_counts, last_fields}
use Rattle.ffv1_range.specs.Tables.{SetValue, scale_after, half_of}
use Rattle.ffv1_range.specs.InitialStates.{StatesValue, uncoded_states, keeps_states}
use Rattle.ffv1_range.specs.TableForms.{TwoRows, fresh_row, fresh_rows, runs_from, table_form, tables_from, sets_from, set_count, delta_form, context_deltas, contexts_deltas, kept_states, set_states, sets_states, states_form}
use Rattle.ffv1_range.specs.SetupFaults.{OneSetupRefusal, OneRecordingRefusal}
use Rattle.ffv1_range.specs.ScopeLaws.{OneScopedRefusal}
use Rattle.ffv1_range.specs.SetupForms.{all_granted, record_read, record_form, front_form, is_size}
use Rattle.ffv1_range.specs.declared.scope.Scope.{Scope}
use Rattle.ffv1_range.specs.declared.scope.Scope.TheVariants.{Profile, Version3}
use Rattle.ffv1_range.specs.declared.coding.RangeFault.{RangeFault}
use Rattle.ffv1_range.specs.declared.fault.SetupFault.{SetupFault}
use Rattle.ffv1_range.specs.declared.fault.SetupFault.TheVariants.{Range, Memory}
use Rattle.ffv1_range.specs.declared.fault.SetupFault.TheVariants as faults
use Rattle.ffv1_range.proofs.Forms.{place_of}
use Rattle.ffv1_range.proofs.SetupLaws.{record-found, record-run}
use Rattle.ffv1_range.proofs.SetupFacts.{no_setup_fault, one_setup_fault}

-- it is not for want of memory that nothing was read
abbrev pub NeedsNone : {A : Type 0} → Result A SetupFault → Type 0
NeedsNone r = r ≡ Err Memory → ⊥

-- ---- one form after the other

bound : {A B : Type 0} (r : Result A SetupFault) (f : A → Result B SetupFault) → NeedsNone r → ((x : A) → NeedsNone (f x)) → NeedsNone (r >>> f)
bound (Ok x) f h k = k x
bound {A = A} {B = B} (Err e) f h k = λ memory. h (again e memory)
  where
    again : (e : SetupFault) → ◌≡◌ {A = Result B SetupFault} (Err e) (Err Memory) → ◌≡◌ {A = Result A SetupFault} (Err e) (Err Memory)
    again e m = cc

given : {A : Type 0} (x : A) → NeedsNone (Ok x)
given x = λ memory. cc

of_range : {A : Type 0} (r : Result A RangeFault) → NeedsNone (lifted_result Range r)
of_range (Ok x) = λ memory. cc
of_range (Err e) = λ memory. cc

tested : {X : Type 0} (b : Bool) (fault : SetupFault) → (fault ≡ Memory → ⊥) → (mode : Mode) (p : PlaceOf X) → NeedsNone (accepted b fault mode p)
tested true fault h mode p = λ memory. cc
tested {X = X} false fault h mode p = λ memory. h (same fault memory)
  where
    same : (e : SetupFault) → ◌≡◌ {A = Result (Bool × PlaceOf X) SetupFault} (Err e) (Err Memory) → e ≡ Memory
    same e m = cc

chosen : {A : Type 0} (b : Bool) (r s : Result A SetupFault) → NeedsNone r → NeedsNone s → NeedsNone (if b then r else s)
chosen true r s h k = h
chosen false r s h k = k

-- ---- the fields

a_number : (mode : Mode) (p : Place) → NeedsNone (number mode p)
a_number mode p = of_range (symbol_form mode p)

a_flag : (mode : Mode) (p : Place) → NeedsNone (flag mode p)
a_flag mode p = of_range (slot_form 0 mode p)

a_delta : (mode : Mode) (p : Place) → NeedsNone (lifted_result Range (signed_symbol_form mode p))
a_delta mode p = of_range (signed_symbol_form mode p)

versions_need : (mode : Mode) (p : Place) → NeedsNone (versions mode p)
versions_need mode p =
    bound _ _ (a_number mode p) λ version. bound _ _ (tested (version.0 == 3) faults.Version (λ m. cc) mode version.1) λ is_three.
    bound _ _ (a_number mode is_three.1) λ micro. bound _ _ (tested (nat_le 4 micro.0) faults.Micro (λ m. cc) mode micro.1) λ is_late. given _

deltas_need : (n : ℕ) (done : List ℕ) (mode : Mode) (p : Place) → NeedsNone (deltas_onto n done mode p)
unfolding deltas_onto
deltas_need zero done mode p = given _
deltas_need (suc n) done mode p = bound _ _ (a_delta mode p) λ delta. deltas_need n (done ++ delta_byte delta.0 ∷ []) mode delta.1

transitions_need : (is_coded : Bool) (mode : Mode) (p : Place) → NeedsNone ((if is_coded then deltas_onto 255 [] else giving (replicate 255 0)) mode p)
transitions_need true mode p = deltas_need 255 [] mode p
transitions_need false mode p = given _

coder_need : (scope : Scope) (mode : Mode) (p : Place) → NeedsNone (coder_fields scope mode p)
coder_need scope mode p =
    bound _ _ (a_number mode p) λ coder. bound _ _ (tested (accepts_coder scope coder.0) faults.Coder (λ m. cc) mode coder.1) λ is_known.
    bound _ _ (transitions_need (coder.0 == 2) mode is_known.1) λ deltas. given _

samples_need : (scope : Scope) (mode : Mode) (p : Place) → NeedsNone (sample_fields scope mode p)
samples_need scope mode p =
    bound _ _ (a_number mode p) λ space. bound _ _ (tested (accepts_space scope space.0) faults.ColorSpace (λ m. cc) mode space.1) λ is_known.
    bound _ _ (a_number mode is_known.1) λ depth. bound _ _ (tested (accepts_depth scope depth.0) faults.Depth (λ m. cc) mode depth.1) λ is_held. given _

chroma_need : (scope : Scope) (space : ℕ) (mode : Mode) (p : Place) → NeedsNone (chroma_fields scope space mode p)
chroma_need scope space mode p =
    bound _ _ (a_flag mode p) λ chroma. bound _ _ (tested (accepts_chroma space chroma.0) faults.ColorSpace (λ m. cc) mode chroma.1) λ are_all.
    bound _ _ (a_number mode are_all.1) λ h. bound _ _ (tested (accepts_shift scope space chroma.0 h.0) faults.Subsampling (λ m. cc) mode h.1) λ is_small_h.
    bound _ _ (a_number mode is_small_h.1) λ v. bound _ _ (tested (accepts_shift scope space chroma.0 v.0) faults.Subsampling (λ m. cc) mode v.1) λ is_small_v.
    given _

extra_need : (scope : Scope) (mode : Mode) (p : Place) → NeedsNone (extra_field scope mode p)
extra_need scope mode p =
    bound _ _ (a_flag mode p) λ extra. bound _ _ (tested (accepts_extra_plane scope extra.0) faults.ExtraPlane (λ m. cc) mode extra.1) λ is_held. given _

shape_need : (scope : Scope) (mode : Mode) (p : Place) → NeedsNone (shape_fields scope mode p)
shape_need scope mode p =
    bound (coder_fields scope mode p) _ (coder_need scope mode p) λ coder.
    bound (sample_fields scope mode coder.1) _ (samples_need scope mode coder.1) λ samples.
    bound (chroma_fields scope samples.0.0 mode samples.1) _ (chroma_need scope samples.0.0 mode samples.1) λ planes.
    bound (extra_field scope mode planes.1) _ (extra_need scope mode planes.1) λ extra. given _

counts_need : (width height : ℕ) (mode : Mode) (p : Place) → NeedsNone (tile_counts width height mode p)
counts_need width height mode p =
    bound _ _ (a_number mode p) λ across. bound _ _ (a_number mode across.1) λ down.
    bound _ _ (tested (nat_le (across.0 + 1) width && nat_le (down.0 + 1) height) faults.GridTooFine (λ m. cc) mode down.1) λ is_coarse.
    bound _ _ (tested (nat_le ((across.0 + 1) * (down.0 + 1)) most_tiles) faults.TooManyTiles (λ m. cc) mode is_coarse.1) λ are_few. given _

count_need : (mode : Mode) (p : Place) → NeedsNone (set_count mode p)
count_need mode p =
    bound _ _ (a_number mode p) λ count. bound _ _ (tested (nat_le 1 count.0) faults.TableCount (λ m. cc) mode count.1) λ is_some.
    bound _ _ (tested (nat_le count.0 8) faults.TableCount (λ m. cc) mode is_some.1) λ is_few. given _

front_need : (scope : Scope) (width height : ℕ) (mode : Mode) (p : Place) → NeedsNone (front_form scope width height mode p)
front_need scope width height mode p =
    bound (versions mode p) _ (versions_need mode p) λ micro.
    bound (shape_fields scope mode micro.1) _ (shape_need scope mode micro.1) λ shape.
    bound (tile_counts width height mode shape.1) _ (counts_need width height mode shape.1) λ tiles.
    bound (set_count mode tiles.1) _ (count_need mode tiles.1) λ sets. given _

last_need : (scope : Scope) (mode : Mode) (p : Place) → NeedsNone (last_fields scope mode p)
last_need scope mode p =
    bound _ _ (a_number mode p) λ ec. bound _ _ (tested (accepts_ec scope ec.0) faults.ParityMode (λ m. cc) mode ec.1) λ is_known.
    bound _ _ (a_number mode is_known.1) λ intra. given _

-- ---- the tables

runs_need : (n filled : ℕ) (got : List ℕ) (mode : Mode) (p : Place) → NeedsNone (runs_from n filled got mode p)
unfolding runs_from
runs_need zero filled got mode p = given _
runs_need (suc n) filled got mode p =
    elim (nat_le 128 filled) as (λ b. NeedsNone ((if b then giving got else (number >>= λ less. accepted (nat_le (filled + (less + 1)) 128) faults.TableRun >>= λ fits.
    runs_from n (filled + (less + 1)) (got ++ (less + 1) ∷ []))) mode p)) [
      | true ↦ given _
      | false ↦ bound _ _ (a_number mode p) λ less.
          bound _ _ (tested (nat_le (filled + (less.0 + 1)) 128) faults.TableRun (λ m. cc) mode less.1) λ fits.
          runs_need n (filled + (less.0 + 1)) (got ++ (less.0 + 1) ∷ []) mode fits.1
    ]

table_needs : (mode : Mode) (p : PlaceOf (Unit {0})) → NeedsNone (table_form mode p)
table_needs mode p = bound (runs_from 128 0 [] mode (place_of p.coder fresh_row)) _ (runs_need 128 0 [] mode (place_of p.coder fresh_row)) λ x. given _

tables_need : (n scale : ℕ) (halves : List (List ℕ)) (mode : Mode) (p : PlaceOf (Unit {0})) → NeedsNone (tables_from n scale halves mode p)
unfolding tables_from
tables_need zero scale halves mode p = given _
tables_need (suc n) scale halves mode p =
    bound (table_form mode p) _ (table_needs mode p) λ runs.
    bound _ _ (tested (nat_le (scale_after scale runs.0) 65535) faults.Contexts (λ m. cc) mode runs.1) λ fits.
    tables_need n (scale_after scale runs.0) (halves ++ half_of scale runs.0 ∷ []) mode fits.1

sets_need : (n : ℕ) (sets : List SetValue) (mode : Mode) (p : PlaceOf (Unit {0})) → NeedsNone (sets_from n sets mode p)
unfolding sets_from
sets_need zero sets mode p = given _
sets_need (suc n) sets mode p = bound (tables_from 5 1 [] mode p) _ (tables_need 5 1 [] mode p) λ set. sets_need n (sets ++ set.0 ∷ []) mode set.1

-- ---- the initial states

delta_needs : (k : ℕ) (mode : Mode) (p : PlaceOf (List (List ℕ))) → NeedsNone (delta_form k mode p)
delta_needs k mode p = bound _ _ (a_delta mode _) λ x. given _

context_needs : (n k : ℕ) (done : List ℕ) (mode : Mode) (p : PlaceOf (List (List ℕ))) → NeedsNone (context_deltas n k done mode p)
unfolding context_deltas
context_needs zero k done mode p = given _
context_needs (suc n) k done mode p = bound (delta_form k mode p) _ (delta_needs k mode p) λ delta. context_needs n (k + 1) (done ++ delta_byte delta.0 ∷ []) mode delta.1

contexts_need : (n : ℕ) (done : List (List ℕ)) (mode : Mode) (p : PlaceOf (List (List ℕ))) → NeedsNone (contexts_deltas n done mode p)
unfolding contexts_deltas
contexts_need zero done mode p = given _
contexts_need (suc n) done mode p = bound (context_deltas 32 0 [] mode p) _ (context_needs 32 0 [] mode p) λ deltas. contexts_need n (done ++ deltas.0 ∷ []) mode deltas.1

kept_need : (keeps : Bool) (contexts : ℕ) (mode : Mode) (p : PlaceOf TwoRows) → NeedsNone (kept_states true keeps contexts mode p)
kept_need keeps contexts mode p =
    bound _ _ (bound (contexts_deltas contexts [] mode (place_of p.coder p.states.1)) _ (contexts_need contexts [] mode (place_of p.coder p.states.1)) λ x. given _)
    λ deltas. given _

coded_need : (keeps : Bool) (contexts : ℕ) (coded : Bool) (mode : Mode) (p : PlaceOf TwoRows)
    → NeedsNone ((if coded then kept_states true keeps contexts else giving uncoded_states) mode p)
coded_need keeps contexts true mode p = kept_need keeps contexts mode p
coded_need keeps contexts false mode p = given _

set_needs : (keeps : Bool) (contexts : ℕ) (mode : Mode) (p : PlaceOf TwoRows) → NeedsNone (set_states true keeps contexts mode p)
set_needs keeps contexts mode p =
    bound _ _ (bound _ _ (a_flag mode (place_of p.coder p.states.0)) λ x. given _) λ coded. coded_need keeps contexts coded.0 mode coded.1

each_needs : (keeps : Bool) (sets : List ℕ) (done : List StatesValue) (mode : Mode) (p : PlaceOf TwoRows)
    → NeedsNone (sets_states (λ set. true) keeps sets done mode p)
unfolding sets_states
each_needs keeps [] done mode p = given _
each_needs keeps (contexts ∷ sets) done mode p =
    bound (set_states true keeps contexts mode p) _ (set_needs keeps contexts mode p) λ states. each_needs keeps sets (done ++ states.0 ∷ []) mode states.1

states_need : (keeps : Bool) (contexts : List ℕ) (mode : Mode) (p : Place) → NeedsNone (states_form (λ set. true) keeps contexts mode p)
states_need keeps contexts mode p =
    bound (sets_states (λ set. true) keeps contexts [] mode (place_of p.coder (p.states, fresh_rows))) _
    (each_needs keeps contexts [] mode (place_of p.coder (p.states, fresh_rows))) λ x. given _

-- ---- a whole record

form_needs : (scope : Scope) (width height : ℕ) (p : Place) → NeedsNone (record_form all_granted scope width height record_mode p)
form_needs scope width height p =
    bound (front_form scope width height record_mode p) _ (front_need scope width height record_mode p) λ front.
    bound _ _ (bound (sets_from front.0.sets [] record_mode (place_of front.1.coder tt)) _
    (sets_need front.0.sets [] record_mode (place_of front.1.coder tt)) λ x. given _) λ sets.
    bound (states_form (λ set. true) (keeps_states front.0.shape.coder) (map (λ set. set.contexts) sets.0) record_mode sets.1) _
    (states_need (keeps_states front.0.shape.coder) (map (λ set. set.contexts) sets.0) record_mode sets.1) λ states.
    bound (last_fields scope record_mode states.1) _ (last_need scope record_mode states.1) λ last. given _

start_needs : (scope : Scope) (width height : ℕ) (at : Result Coder RangeFault)
    → NeedsNone (from_place Range at (λ c. record_form all_granted scope width height record_mode (place_of c fresh_row)))
start_needs scope width height (Ok c) = form_needs scope width height (place_of c fresh_row)
start_needs scope width height (Err e) = λ memory. cc

-- With all memory granted it is not for want of it that a record is refused.
pub record_needs : (config : List ℕ) (scope : Scope) (width height : ℕ) → NeedsNone (record_read all_granted config scope width height)
record_needs config scope width height =
    bound _ _ (chosen (nat_lt (length config) 6) _ _ (λ memory. cc) (chosen (remainder_of (bits_of config) == 0) _ _ (given _) (λ memory. cc))) λ content.
    chosen (is_size width && is_size height) _ _
    (bound _ _ (start_needs scope width height (start_of true content)) λ x. given _) (λ memory. cc)

-- ---- laws

-- a record is read, or it has a fault
read_or_refused : {A : Type 0} (r : Result A SetupFault) → ((x : A) × (r ≡ Ok x)) ⊎ ((e : SetupFault) × (r ≡ Err e))
read_or_refused (Ok x) = inl (x, refl)
read_or_refused (Err e) = inr (e, refl)

pub one_scoped_refusal : OneScopedRefusal
one_scoped_refusal scope config width height =
    record {
      either = elim (read_or_refused (record_read all_granted config scope width height)) [
        | inl is ↦ inl (is.0, record-found config scope width height is.0 is.1)
        | inr fault ↦ inr (fault.0, fault.1)
      ];
      not_both = λ r fault is h. let both = sym (record-run config scope width height r is) ∙ h in cc;
      one_fault = λ fault other h also. let both = sym h ∙ also in cc;
      not_memory = record_needs config scope width height;
    }

pub one_recording_refusal : OneRecordingRefusal
one_recording_refusal = one_scoped_refusal Version3

pub one_setup_refusal : OneSetupRefusal
one_setup_refusal config width height =
    record {
      either = elim (read_or_refused (record_read all_granted config Profile width height)) [
        | inl is ↦ inl (is.0.setup, record { recording = is.0; record_of = record-found config Profile width height is.0 is.1; is = refl })
        | inr fault ↦ inr (fault.0, ap (λ z. z >>> λ r. Ok r.setup) fault.1)
      ];
      not_both = λ setup fault is h. no_setup_fault config width height setup fault is h;
      one_fault = λ fault other h also. one_setup_fault config width height fault other h also;
      not_memory = bound (record_read all_granted config Profile width height) (λ r. Ok r.setup) (record_needs config Profile width height) (λ r. given r.setup);
    }
