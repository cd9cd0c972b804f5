-- A setup that is read is the record's setup, and a record has one.
use Rattle.std.proofs.Common.{◌≡◌, ℕ, Bool, true, false, List, length, Result, Ok, Err, refl, sym, ap, ◌∙◌, subst, map, suc, [], ◌∷◌, ◌≤◌, arith, inl, inr}
use Rattle.std.specs.Prelude.{◌⊎◌, nat_le, nat_lt, ◌==◌, ◌&&◌, ◌||◌, if◌then◌else◌, IfOk, IfErr, MatchResult}
use Rattle.std.proofs.lemmas.Bool.{eqb-true, eq-eqb, leb-true, le-leb, and_parts, and_from, or_cases, or_right, ltb-false, le-ltb}
use Rattle.ffv1_bits.specs.Limits.{greatest_side}
use Rattle.ffv1_bits.specs.Bits.{bits_of}
use Rattle.ffv1_bits.specs.Parity.{RecordPassesParity, remainder_of}
use Rattle.ffv1_range.specs.Results.{◌>>>◌}
use Rattle.ffv1_range.specs.Coding.{record_mode, Coder, Place, start_of}
use Rattle.ffv1_range.specs.Decoder.{Reader, Starts}
use Rattle.ffv1_range.specs.Forms.{from_place, form_at}
use Rattle.ffv1_range.specs.TableForms.{fresh_row}
use Rattle.ffv1_range.specs.InitialStates.{keeps_states}
use Rattle.ffv1_range.specs.Setup.{SetupValue, RecordingValue, SetFields, RecordFields, IsAccepted, IsSize, record_content, IsScopedRecord, IsSetupOf, IsInProfile, IsOfProfile, IsInVersion3, SetupIsOne, SetupIsInProfile, SetupIsRecording, RecordingIsOne, RecordingIsInVersion3, RecordingIsOfProfile}
use Rattle.ffv1_range.specs.Scopes.{accepts_coder, accepts_space, accepts_depth, accepts_shift, accepts_extra_plane, accepts_ec, greatest_shift}
use Rattle.ffv1_range.specs.declared.scope.Scope.{Scope}
use Rattle.ffv1_range.specs.declared.scope.Scope.TheVariants.{Profile, Parities, Version3}
use Rattle.ffv1_range.specs.Tables.{set_of}
use Rattle.ffv1_range.specs.SetupForms.{Grants, all_granted, record_form, checked_content, is_size, record_read, setup_read}
use Rattle.ffv1_range.specs.declared.coding.RangeFault.{RangeFault}
use Rattle.ffv1_range.specs.declared.fault.SetupFault.{SetupFault}
use Rattle.ffv1_range.specs.declared.fault.SetupFault.TheVariants.{TooShort, Parity, Range, Memory}
use Rattle.ffv1_range.proofs.Forms.{place_of}
use Rattle.ffv1_range.proofs.Spelling.{bind_is_ok, same_ok}
use Rattle.ffv1_range.proofs.SetupSteps.{IsOpened, opened, opened_read, value_of, fields_read, sized, sized_read}
use Rattle.ffv1_range.proofs.SetupRuns.{record_form-found, record_form-run}
use Rattle.ffv1_range.proofs.FirstFaults.{first_fault, profile_read}
use Rattle.ffv1_range.proofs.Contexts.{sets_have_contexts, states_count, states_of_contexts}

-- ---- length, parity and size

checked_by : Bool → Bool → List ℕ → Result (List ℕ) SetupFault
checked_by short passes content = if short then Err TooShort else (if passes then Ok content else Err Parity)

checked_by-ok : (short passes : Bool) (content read : List ℕ) → checked_by short passes content ≡ Ok read → (short ≡ false) × (passes ≡ true) × (content ≡ read)
unfolding checked_by
checked_by-ok true passes content read h = absurd cc
checked_by-ok false true content read h = (refl, refl, same_ok content read h)
checked_by-ok false false content read h = absurd cc

checked-found : (config content : List ℕ) → checked_content config ≡ Ok content → RecordPassesParity config × (content ≡ record_content config)
unfolding checked_by
checked-found config content h =
    let r = checked_by-ok (nat_lt (length config) 6) (remainder_of (bits_of config) == 0) (record_content config) content h in
    ((ltb-false (length config) 6 r.0, eqb-true (remainder_of (bits_of config)) 0 r.1), sym r.2)

checked-run : (config : List ℕ) → RecordPassesParity config → checked_content config ≡ Ok (record_content config)
unfolding checked_by
checked-run config h =
    ap (λ b. checked_by b (remainder_of (bits_of config) == 0) (record_content config)) (le-ltb (length config) 6 h.0)
    ∙ ap (λ b. checked_by false b (record_content config)) (eq-eqb (remainder_of (bits_of config)) 0 h.1)

size_found : (n : ℕ) → is_size n ≡ true → IsSize n
size_found n h = let parts = and_parts (nat_le 1 n) (nat_le n greatest_side) h in (leb-true 1 n parts.0, leb-true n greatest_side parts.1)

size_test : (n : ℕ) → IsSize n → is_size n ≡ true
size_test n h = and_from (nat_le 1 n) (nat_le n greatest_side) (le-leb 1 n h.0) (le-leb n greatest_side h.1)

-- ---- what is read is the record's setup

sized_ok : (granted : Grants) (is_width is_height : Bool) (scope : Scope) (width height : ℕ) (content : List ℕ) (value : RecordingValue)
    → sized granted is_width is_height scope width height content ≡ Ok value
    → (is_width ≡ true) × (is_height ≡ true) × (fields_read granted scope width height content ≡ Ok value)
unfolding sized
sized_ok granted true true scope width height content value h = (refl, refl, h)
sized_ok granted true false scope width height content value h = absurd cc
sized_ok granted false is_height scope width height content value h = absurd cc

-- the start of the content, and what the fields give there
started_ok : (granted : Grants) (scope : Scope) (width height : ℕ) (at : Result Coder RangeFault) (value : RecordingValue)
    → value_of (from_place Range at (λ c. record_form granted scope width height record_mode (place_of c fresh_row))) ≡ Ok value
    → (c : Coder) × (at ≡ Ok c) × ((y : RecordingValue × Place) × (record_form granted scope width height record_mode
    (place_of c fresh_row) ≡ Ok y) × (y.0 ≡ value))
unfolding value_of
started_ok granted scope width height (Ok c) value h =
    let x = bind_is_ok (record_form granted scope width height record_mode (place_of c fresh_row)) (λ x. Ok x.0) value h in
    (c, refl, (x.0, x.1, same_ok x.0.0 value x.2))
started_ok granted scope width height (Err e) value h = absurd cc

-- a record that is read: its parts
record Opening (granted : Grants) (config : List ℕ) (scope : Scope) (width height : ℕ) (value : RecordingValue) : Type 0 where
  content : List ℕ
  checked : checked_content config ≡ Ok content
  is_width : is_size width ≡ true
  is_height : is_size height ≡ true
  start : Coder
  started : start_of true content ≡ Ok start
  outcome : RecordingValue × Place
  read : record_form granted scope width height record_mode (place_of start fresh_row) ≡ Ok outcome
  is : outcome.0 ≡ value

opening : (granted : Grants) (config : List ℕ) (scope : Scope) (width height : ℕ) (value : RecordingValue)
    → record_read granted config scope width height ≡ Ok value
    → Opening granted config scope width height value
unfolding sized fields_read value_of
opening granted config scope width height value h =
    let a = bind_is_ok (checked_content config) (sized granted (is_size width) (is_size height) scope width height) value h in
    let b = sized_ok granted (is_size width) (is_size height) scope width height a.0 value a.2 in
    let c = started_ok granted scope width height (start_of true a.0) value b.2 in
    record { content = a.0; checked = a.1; is_width = b.0; is_height = b.1; start = c.0; started = c.1; outcome = c.2.0; read = c.2.1; is = c.2.2 }

pub record-found : (config : List ℕ) (scope : Scope) (width height : ℕ) (value : RecordingValue) → record_read all_granted config scope width height ≡ Ok value
    → IsScopedRecord config scope width height value
record-found config scope width height value h =
    let o = opening all_granted config scope width height value h in
    let checked = checked-found config o.content o.checked in
    let s = record_form-found scope width height o.start o.outcome o.read in
    record {
      passes = checked.0;
      is_width = size_found width o.is_width;
      is_height = size_found height o.is_height;
      fields = s.fields;
      accepted = s.accepted;
      start = o.start;
      started = subst (λ z. start_of true z ≡ Ok o.start) checked.1 o.started;
      end = s.end;
      coded = s.coded;
      is = sym o.is ∙ s.is;
    }

-- ---- the record's setup is read

pub record-run : (config : List ℕ) (scope : Scope) (width height : ℕ) (value : RecordingValue) → IsScopedRecord config scope width height value
    → record_read all_granted config scope width height ≡ Ok value
unfolding fields_read value_of
record-run config scope width height value s =
    let r = record_form-run scope width height s.start s.fields s.end s.accepted s.is_width.1 s.is_height.1 s.coded in
    sized_read all_granted config (record_content config) scope width height (checked-run config s.passes) (size_test width s.is_width) (size_test height s.is_height)
    ∙ ap (λ z. value_of (from_place Range z (λ c. record_form all_granted scope width height record_mode (place_of c fresh_row)))) s.started
    ∙ ap value_of r.1
    ∙ ap (λ z. Ok z) (sym s.is)

pub record_is_one : (config : List ℕ) (scope : Scope) (width height : ℕ) (a b : RecordingValue) → IsScopedRecord config scope width height a
    → IsScopedRecord config scope width height b → a ≡ b
record_is_one config scope width height a b s t =
    same_ok a b (sym (record-run config scope width height a s) ∙ record-run config scope width height b t)

pub recording_is_one : RecordingIsOne
recording_is_one config width height a b s t = record_is_one config Version3 width height a b s t

pub setup_is_one : SetupIsOne
setup_is_one config width height a b s t =
    s.is ∙ ap (λ r. r.setup) (record_is_one config Profile width height s.recording t.recording s.record_of t.record_of) ∙ sym t.is

-- the setup of a record is read
pub setup-run : (config : List ℕ) (width height : ℕ) (setup : SetupValue) → IsSetupOf config width height setup
    → setup_read true config width height ≡ Ok setup
setup-run config width height setup s =
    ap (λ z. z >>> λ r. Ok r.setup) (record-run config Profile width height s.recording s.record_of) ∙ ap (λ z. Ok z) (sym s.is)

-- ---- what is accepted

small_shift : (scope : Scope) (space : ℕ) (chroma : Bool) (shift : ℕ) → accepts_shift scope space chroma shift ≡ true
    → (if chroma then shift else 0) ≤ greatest_shift scope space
small_shift scope space true shift h = leb-true shift (greatest_shift scope space) h
small_shift scope space false shift h = omega arith

no_shift_past_4 : (scope : Scope) (space : ℕ) → greatest_shift scope space ≤ 4
no_shift_past_4 Profile space = omega arith
no_shift_past_4 _ space = elim (space == 0) as (λ b. (if b then 4 else 0) ≤ 4) [ true ↦ omega arith | false ↦ omega arith ]

known_coder : (scope : Scope) (coder : ℕ) → accepts_coder scope coder ≡ true → coder ≤ 2
known_coder Profile coder h = let none = eqb-true coder 0 h in omega arith
known_coder _ coder h = leb-true coder 2 h

known_depth : (scope : Scope) (depth : ℕ) → accepts_depth scope depth ≡ true → (depth ≡ 0) ⊎ ((8 ≤ depth) × (depth ≤ 16))
known_depth Profile depth h =
    elim (or_cases (depth == 0) (depth == 8) h) [
      | inl none ↦ inl (eqb-true depth 0 none)
      | inr eight ↦ inr (let is = eqb-true depth 8 eight in (omega arith, omega arith))
    ]
known_depth _ depth h =
    elim (or_cases (depth == 0) (nat_le 8 depth && nat_le depth 16) h) [
      | inl none ↦ inl (eqb-true depth 0 none)
      | inr some ↦ inr (let parts = and_parts (nat_le 8 depth) (nat_le depth 16) some in (leb-true 8 depth parts.0, leb-true depth 16 parts.1))
    ]

depth_bounds : (depth : ℕ) (is_zero : Bool) → (depth == 0) ≡ is_zero → (depth ≡ 0) ⊎ ((8 ≤ depth) × (depth ≤ 16))
    → record { some : 8 ≤ (if is_zero then 8 else depth); few : (if is_zero then 8 else depth) ≤ 16 }
depth_bounds depth true is h = record { some = omega arith; few = omega arith }
depth_bounds depth false is (inl none) = absurd (let zero = eq-eqb depth 0 none in cc)
depth_bounds depth false is (inr within) = record { some = within.0; few = within.1 }

values_count : (sets : List SetFields) → length (map (λ set. set_of set.tables) sets) ≡ length sets
values_count [] = refl
values_count (set ∷ sets) = ap suc (values_count sets)

pub record_in_version_3 : (config : List ℕ) (scope : Scope) (width height : ℕ) (value : RecordingValue) → IsScopedRecord config scope width height value
    → IsInVersion3 value
record_in_version_3 config scope width height value s =
    let r : RecordFields = s.fields in
    let count = values_count r.sets in
    let depth = depth_bounds r.bits_per_raw_sample (r.bits_per_raw_sample == 0) refl
    (known_depth scope r.bits_per_raw_sample s.accepted.bits_per_raw_sample) in
    let most = no_shift_past_4 scope r.colorspace_type in
    let shift_h = small_shift scope r.colorspace_type r.chroma_planes r.log2_h_chroma_subsample s.accepted.log2_h_chroma_subsample in
    let shift_v = small_shift scope r.colorspace_type r.chroma_planes r.log2_v_chroma_subsample s.accepted.log2_v_chroma_subsample in
    subst IsInVersion3 (sym s.is)
    (record {
      coder = known_coder scope r.coder_type s.accepted.coder_type;
      some_depth = depth.some;
      few_depth = depth.few;
      late = s.accepted.micro_version;
      small_h = omega (arith, shift_h, most);
      small_v = omega (arith, shift_v, most);
      some_across = omega arith;
      coarse_across = s.accepted.across;
      some_down = omega arith;
      coarse_down = s.accepted.down;
      few_tiles = s.accepted.tiles;
      narrow = s.is_width.1;
      low = s.is_height.1;
      some_set = subst (λ n. 1 ≤ n) (sym count) s.accepted.some_set;
      few_sets = subst (λ n. n ≤ 8) (sym count) s.accepted.few_sets;
      contexts = sets_have_contexts r.sets s.accepted.sets;
      states = states_count (keeps_states r.coder_type) r.sets ∙ sym count;
      initial = states_of_contexts (keeps_states r.coder_type) r.sets s.accepted.sets;
    })

pub read_in_version_3 : (config : List ℕ) (scope : Scope) (width height : ℕ) (value : RecordingValue)
    → record_read all_granted config scope width height ≡ Ok value → IsInVersion3 value
read_in_version_3 config scope width height value h =
    record_in_version_3 config scope width height value (record-found config scope width height value h)

pub recording_is_in_version_3 : RecordingIsInVersion3
recording_is_in_version_3 config width height r s = record_in_version_3 config Version3 width height r s

-- a record of the profile has small shifts
pub record_in_profile : (config : List ℕ) (width height : ℕ) (value : RecordingValue) → IsScopedRecord config Profile width height value
    → IsInProfile value.setup
record_in_profile config width height value s =
    let r : RecordFields = s.fields in
    let kept = record_in_version_3 config Profile width height value s in
    record {
      late = kept.late;
      small_h = subst (λ (z : RecordingValue). z.setup.shift_h ≤ 2) (sym s.is)
          (small_shift Profile r.colorspace_type r.chroma_planes r.log2_h_chroma_subsample s.accepted.log2_h_chroma_subsample);
      small_v = subst (λ (z : RecordingValue). z.setup.shift_v ≤ 2) (sym s.is)
          (small_shift Profile r.colorspace_type r.chroma_planes r.log2_v_chroma_subsample s.accepted.log2_v_chroma_subsample);
      some_across = kept.some_across;
      coarse_across = kept.coarse_across;
      some_down = kept.some_down;
      coarse_down = kept.coarse_down;
      few_tiles = kept.few_tiles;
      narrow = kept.narrow;
      low = kept.low;
      some_set = kept.some_set;
      few_sets = kept.few_sets;
      contexts = kept.contexts;
    }

pub setup_is_in_profile : SetupIsInProfile
setup_is_in_profile config width height setup s =
    subst IsInProfile (sym s.is) (record_in_profile config width height s.recording s.record_of)

-- what the profile accepts, version 3 accepts too

wider_coder : (coder : ℕ) → accepts_coder Profile coder ≡ true → accepts_coder Version3 coder ≡ true
wider_coder coder h = le-leb coder 2 (let none = eqb-true coder 0 h in omega arith)

wider_space : (space : ℕ) → accepts_space Profile space ≡ true → accepts_space Version3 space ≡ true
wider_space space h = le-leb space 1 (let none = eqb-true space 0 h in omega arith)

wider_depth : (depth : ℕ) → accepts_depth Profile depth ≡ true → accepts_depth Version3 depth ≡ true
wider_depth depth h =
    elim (or_cases (depth == 0) (depth == 8) h) [
      | inl none ↦ ap (λ b. b || (nat_le 8 depth && nat_le depth 16)) none
      | inr eight ↦ let is = eqb-true depth 8 eight in
          or_right (depth == 0) (nat_le 8 depth && nat_le depth 16)
          (and_from (nat_le 8 depth) (nat_le depth 16) (le-leb 8 depth (omega arith)) (le-leb depth 16 (omega arith)))
    ]

wider_shift : (space : ℕ) (chroma : Bool) (shift : ℕ) → accepts_space Profile space ≡ true → accepts_shift Profile space chroma shift ≡ true
    → accepts_shift Version3 space chroma shift ≡ true
wider_shift space false shift s h = refl
wider_shift space true shift s h =
    let small = leb-true shift 2 h in
    ap (λ b. nat_le shift (if b then 4 else 0)) s ∙ le-leb shift 4 (omega arith)

wider_ec : (ec : ℕ) → accepts_ec Profile ec ≡ true → accepts_ec Version3 ec ≡ true
wider_ec ec h = le-leb ec 1 (let one = eqb-true ec 1 h in omega arith)

-- what one scope accepts, another accepts too
record IsWithin (narrow wide : Scope) : Type 0 where
  coder : (coder : ℕ) → accepts_coder narrow coder ≡ true → accepts_coder wide coder ≡ true
  space : (space : ℕ) → accepts_space narrow space ≡ true → accepts_space wide space ≡ true
  depth : (depth : ℕ) → accepts_depth narrow depth ≡ true → accepts_depth wide depth ≡ true
  shift : (space : ℕ) (chroma : Bool) (shift : ℕ) → accepts_space narrow space ≡ true → accepts_shift narrow space chroma shift ≡ true
      → accepts_shift wide space chroma shift ≡ true
  extra_plane : (extra : Bool) → accepts_extra_plane narrow extra ≡ true → accepts_extra_plane wide extra ≡ true
  ec : (ec : ℕ) → accepts_ec narrow ec ≡ true → accepts_ec wide ec ≡ true

record_within : (narrow wide : Scope) → IsWithin narrow wide → (config : List ℕ) (width height : ℕ) (value : RecordingValue)
    → IsScopedRecord config narrow width height value → IsScopedRecord config wide width height value
record_within narrow wide within config width height value of =
    let ok : IsAccepted narrow width height of.fields = of.accepted in
    record {
      passes = of.passes;
      is_width = of.is_width;
      is_height = of.is_height;
      fields = of.fields;
      accepted = record {
        version = ok.version;
        micro_version = ok.micro_version;
        coder_type = within.coder of.fields.coder_type ok.coder_type;
        state_transition_delta = ok.state_transition_delta;
        colorspace_type = within.space of.fields.colorspace_type ok.colorspace_type;
        bits_per_raw_sample = within.depth of.fields.bits_per_raw_sample ok.bits_per_raw_sample;
        chroma_planes = ok.chroma_planes;
        log2_h_chroma_subsample = within.shift of.fields.colorspace_type of.fields.chroma_planes of.fields.log2_h_chroma_subsample ok.colorspace_type
            ok.log2_h_chroma_subsample;
        log2_v_chroma_subsample = within.shift of.fields.colorspace_type of.fields.chroma_planes of.fields.log2_v_chroma_subsample ok.colorspace_type
            ok.log2_v_chroma_subsample;
        extra_plane = within.extra_plane of.fields.extra_plane ok.extra_plane;
        across = ok.across;
        down = ok.down;
        tiles = ok.tiles;
        some_set = ok.some_set;
        few_sets = ok.few_sets;
        sets = ok.sets;
        ec = within.ec of.fields.ec ok.ec;
        symbols = ok.symbols;
      };
      start = of.start;
      started = of.started;
      end = of.end;
      coded = of.coded;
      is = of.is;
    }

no_alpha_is_any : (extra : Bool) → accepts_extra_plane Profile extra ≡ true → accepts_extra_plane Version3 extra ≡ true
no_alpha_is_any extra h = refl

-- a record of the profile is one with parities
pub profile_has_parities : (config : List ℕ) (width height : ℕ) (value : RecordingValue) → IsScopedRecord config Profile width height value
    → IsScopedRecord config Parities width height value
profile_has_parities =
    record_within Profile Parities (record {
      coder = wider_coder;
      space = wider_space;
      depth = wider_depth;
      shift = wider_shift;
      extra_plane = no_alpha_is_any;
      ec = λ ec h. h;
    })

-- a record with parities is one of version 3
pub parities_are_wider : (config : List ℕ) (width height : ℕ) (value : RecordingValue) → IsScopedRecord config Parities width height value
    → IsScopedRecord config Version3 width height value
parities_are_wider =
    record_within Parities Version3 (record {
      coder = λ coder h. h;
      space = λ space h. h;
      depth = λ depth h. h;
      shift = λ space chroma shift s h. h;
      extra_plane = λ extra h. h;
      ec = wider_ec;
    })

-- a record of the profile is one of version 3
pub record_is_wider : (config : List ℕ) (width height : ℕ) (value : RecordingValue) → IsScopedRecord config Profile width height value
    → IsScopedRecord config Version3 width height value
record_is_wider config width height value of = parities_are_wider config width height value (profile_has_parities config width height value of)

pub setup_is_recording : SetupIsRecording
setup_is_recording config width height setup s = (s.recording, record_is_wider config width height s.recording s.record_of, s.is)

-- the profile's space is no RGB, and its depth is 8 bits
no_rgb : (space : ℕ) → accepts_space Profile space ≡ true → (space == 1) ≡ false
no_rgb space h = ap (λ s. s == 1) (eqb-true space 0 h)

eight_bits : (depth : ℕ) → accepts_depth Profile depth ≡ true → (if depth == 0 then 8 else depth) ≡ 8
eight_bits depth h =
    elim (or_cases (depth == 0) (depth == 8) h) [
      | inl none ↦ ap (λ b. if b then 8 else depth) none
      | inr eight ↦ ap (λ d. if d == 0 then 8 else d) (eqb-true depth 8 eight)
    ]

no_alpha : (extra : Bool) → accepts_extra_plane Profile extra ≡ true → extra ≡ false
no_alpha false h = refl
no_alpha true h = absurd cc

-- what a record of the profile says
record_keeps_profile : (config : List ℕ) (width height : ℕ) (value : RecordingValue) → IsScopedRecord config Profile width height value → IsOfProfile value
record_keeps_profile config width height value s =
    let ok : IsAccepted Profile width height s.fields = s.accepted in
    record {
      coder = ap (λ (z : RecordingValue). z.coder) s.is ∙ eqb-true s.fields.coder_type 0 ok.coder_type;
      is_rgb = ap (λ (z : RecordingValue). z.is_rgb) s.is ∙ no_rgb s.fields.colorspace_type ok.colorspace_type;
      depth = ap (λ (z : RecordingValue). z.depth) s.is ∙ eight_bits s.fields.bits_per_raw_sample ok.bits_per_raw_sample;
      has_alpha = ap (λ (z : RecordingValue). z.has_alpha) s.is ∙ no_alpha s.fields.extra_plane ok.extra_plane;
      ec = ap (λ (z : RecordingValue). z.setup.ec) s.is ∙ eqb-true s.fields.ec 1 ok.ec;
      setup = record_in_profile config width height value s;
    }

pub recording_is_of_profile : RecordingIsOfProfile
recording_is_of_profile config width height setup r s is =
    let one : s.recording ≡ r = recording_is_one config width height s.recording r (record_is_wider config width height s.recording s.record_of) is in
    (s.is ∙ ap (λ z. z.setup) one, subst IsOfProfile one (record_keeps_profile config width height s.recording s.record_of))

-- ---- a result that reading gives

only_of : (config : List ℕ) (scope : Scope) (width height : ℕ) (granted : Grants) (e : SetupFault) (setup : RecordingValue)
    → record_read granted config scope width height ≡ Err e
    → IsScopedRecord config scope width height setup → e ≡ Memory
only_of config scope width height granted e setup h s =
    elim (first_fault config scope width height granted e h) [
      | inl memory ↦ memory
      | inr first ↦ absurd (apart_results (sym first ∙ record-run config scope width height setup s))
    ]
  where
    apart_results : ◌≡◌ {A = Result RecordingValue SetupFault} (Err e) (Ok setup) → ⊥
    apart_results h = cc

-- what the contract says of a result
abbrev pub Returned : List ℕ → Scope → ℕ → ℕ → Result RecordingValue SetupFault → Type 0
Returned config scope width height result =
    record {
      found : IfOk result (IsScopedRecord config scope width height);
      only : (setup : RecordingValue) → IsScopedRecord config scope width height setup → MatchResult result (λ read. read ≡ setup) (λ fault. fault ≡ Memory);
      first : IfErr result (λ fault. (fault ≡ Memory) ⊎ (record_read all_granted config scope width height ≡ Err fault));
      fault : IfErr result (λ fault. (granted : Grants) × (record_read granted config scope width height ≡ Err fault));
    }

pub returned : (config : List ℕ) (scope : Scope) (width height : ℕ) (value : RecordingValue) → record_read all_granted config scope width height ≡ Ok value
    → Returned config scope width height (Ok value)
returned config scope width height value h =
    record {
      found = record-found config scope width height value h;
      only = λ setup s. same_ok value setup (sym h ∙ record-run config scope width height setup s);
      first = tt;
      fault = tt;
    }

pub refused_by : (config : List ℕ) (scope : Scope) (width height : ℕ) (granted : Grants) (e : SetupFault) → record_read granted config scope width height ≡ Err e
    → Returned config scope width height (Err e)
refused_by config scope width height granted e h =
    record {
      found = tt;
      only = λ setup s. only_of config scope width height granted e setup h s;
      first = first_fault config scope width height granted e h;
      fault = (granted, h);
    }

-- ---- a record of the profile as a setup

pub setup_first : (config : List ℕ) (width height : ℕ) (e : SetupFault) → (e ≡ Memory) ⊎ (record_read all_granted config Profile width height ≡ Err e)
    → (e ≡ Memory) ⊎ (setup_read true config width height ≡ Err e)
setup_first config width height e (inl memory) = inl memory
setup_first config width height e (inr first) = inr (ap (λ z. z >>> λ r. Ok r.setup) first)

pub setup_refused : (config : List ℕ) (width height : ℕ) (e : SetupFault) → (granted : Grants) × (record_read granted config Profile width height ≡ Err e)
    → (granted : Bool) × (setup_read granted config width height ≡ Err e)
setup_refused config width height e h =
    (h.0.sets, ap (λ z. z >>> λ r. Ok r.setup) (sym (profile_read config width height h.0) ∙ h.1))

-- ---- the same once length, parity and size were found right, where the decoder has the content

module _ (config content : List ℕ) (scope : Scope) (width height : ℕ) (r : Reader) (checked : checked_content config ≡ Ok content)
    (is_width : true ≡ is_size width)
    (is_height : true ≡ is_size height) (starts : Starts record_mode content (Ok r)) where
  abbrev is_opened : IsOpened config width height r
  is_opened = opened config content width height r checked (sym is_width) (sym is_height) starts

  pub refused_in : (granted : Grants) (e : SetupFault) → form_at Range (record_form granted scope width height) r fresh_row ≡ Err e
      → Returned config scope width height (Err e)
  refused_in granted e h = refused_by config scope width height granted e (opened_read granted config scope width height r (Err e) is_opened h)

  pub read_in : (value : RecordingValue) (place : Place) → form_at Range (record_form all_granted scope width height) r fresh_row ≡ Ok (value, place)
      → record_read all_granted config scope width height ≡ Ok value
  read_in value place h = opened_read all_granted config scope width height r (Ok (value, place)) is_opened h
