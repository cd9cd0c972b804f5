-- A setup: what a configuration record says of its frames (RFC 9043, sections 4.2 and 4.3), for frames of one size.
use Rattle.std.specs.Prelude.{◌≡◌, ℕ, ◌+◌, ◌-◌, ◌*◌, ◌^◌, ◌<◌, ◌≤◌, ◌==◌, Bool, true, false, List, [], ◌∷◌, ◌++◌, Ok, Option, Some, None, IfSome, length, map, take, ℤ, unsigned_abs, slice_index_or, if◌then◌else◌, refl}
use Rattle.std.specs.Coded.{Coded, code_by, coded×, coded_ℕ, coded_bool, coded_list}
use Rattle.std.specs.List.{All, flat_map}
use Rattle.ffv1_bits.specs.Limits.{greatest_side, most_tiles}
use Rattle.ffv1_bits.specs.Parity.{RecordPassesParity}
use Rattle.ffv1_range.specs.Coding.{record_mode, Coder, PlaceOf, start_of}
use Rattle.ffv1_range.specs.Rows.{Rows, RowBits, IsRowsRun}
use Rattle.ffv1_range.specs.Symbols.{symbol_bits, signed_symbol_bits}
use Rattle.ffv1_range.specs.Tables.{SetValue, IsTableSet, HaveContexts, set_of, table_entry}
use Rattle.ffv1_range.specs.TableForms.{fresh_row}
use Rattle.ffv1_range.specs.Scopes.{accepts_coder, accepts_space, accepts_depth, accepts_chroma, accepts_shift, accepts_extra_plane, accepts_ec, delta_count}
use Rattle.ffv1_range.specs.Transitions.{delta_bytes, transitions_with}
use Rattle.ffv1_range.specs.InitialStates.{StatesValue, keeps_states, uncoded_states, states_of}
use Rattle.ffv1_range.specs.declared.scope.Scope.{Scope}
use Rattle.ffv1_range.specs.declared.scope.Scope.TheVariants.{Profile, Version3}
use Rattle.ffv1_range.specs.declared.transitions.Transitions.{Transitions}

pub record SetupValue : Type 0 where
  pub micro : ℕ
  pub has_chroma : Bool
  pub shift_h : ℕ
  pub shift_v : ℕ
  pub across : ℕ
  pub down : ℕ
  pub sets : List SetValue
  pub ec : ℕ
  pub intra : ℕ
  pub width : ℕ
  pub height : ℕ

-- a setup as one of the coded types, of which sets and lists can be made
abbrev pub coded_set : Coded SetValue
coded_set =
    code_by (List (List ℕ) × ℕ) (coded× (coded_list (coded_list coded_ℕ)) coded_ℕ)
    (λ s. (s.halves, s.contexts)) (λ p. record { halves = p.0; contexts = p.1 }) (λ _. refl)

abbrev pub coded_setup : Coded SetupValue
coded_setup =
    code_by (Bool × (List SetValue × (ℕ × (ℕ × (ℕ × (ℕ × (ℕ × (ℕ × (ℕ × (ℕ × ℕ))))))))))
    (coded× coded_bool (coded× (coded_list coded_set) (coded× coded_ℕ
    (coded× coded_ℕ (coded× coded_ℕ (coded× coded_ℕ (coded× coded_ℕ (coded× coded_ℕ (coded× coded_ℕ (coded× coded_ℕ coded_ℕ))))))))))
    (λ s. (s.has_chroma, (s.sets, (s.micro, (s.shift_h, (s.shift_v, (s.across, (s.down, (s.ec, (s.intra, (s.width, s.height)))))))))))
    (λ p. record {
      has_chroma = p.0;
      sets = p.1.0;
      micro = p.1.1.0;
      shift_h = p.1.1.1.0;
      shift_v = p.1.1.1.1.0;
      across = p.1.1.1.1.1.0;
      down = p.1.1.1.1.1.1.0;
      ec = p.1.1.1.1.1.1.1.0;
      intra = p.1.1.1.1.1.1.1.1.0;
      width = p.1.1.1.1.1.1.1.1.1.0;
      height = p.1.1.1.1.1.1.1.1.1.1;
    })
    (λ _. refl)

-- a set of no tables
abbrev pub no_set : SetValue
no_set = record { halves = []; contexts = 0 }

-- the number of contexts of the set of this number
abbrev pub set_contexts : SetupValue → ℕ → ℕ
set_contexts setup set = (slice_index_or setup.sets set no_set).contexts

-- an entry of a table of a set
abbrev pub set_entry : SetupValue → ℕ → ℕ → ℕ → ℤ
set_entry setup set table index = table_entry (slice_index_or (slice_index_or setup.sets set no_set).halves table []) index

-- ---- the fields of a record

-- One field as it is coded: an unsigned symbol, one bit at slot 0, or a signed symbol.
pub data FieldValue : Type 0 where
  symbol : ℕ → FieldValue
  bit : Bool → FieldValue
  signed : ℤ → FieldValue

abbrev pub field_bits : FieldValue → List (ℕ × Bool)
field_bits (symbol n) = symbol_bits n
field_bits (bit b) = (0, b) ∷ []
field_bits (signed z) = signed_symbol_bits z

unfoldable pub fields_bits : List FieldValue → List (ℕ × Bool)
fields_bits [] = []
fields_bits (field ∷ fields) = field_bits field ++ fields_bits fields

-- symbols have 32 bits at most
abbrev pub IsSymbol : ℕ → Type 0
IsSymbol n = n < 2 ^ 32

-- A set as it is coded: the runs of its tables, and for each of its contexts 32 deltas where states_coded is 1.
pub record SetFields : Type 0 where
  pub tables : List (List ℕ)
  pub deltas : Option (List (List ℤ))

pub record RecordFields : Type 0 where
  pub version : ℕ
  pub micro_version : ℕ
  pub coder_type : ℕ
  pub state_transition_delta : List ℤ
  pub colorspace_type : ℕ
  pub bits_per_raw_sample : ℕ
  pub chroma_planes : Bool
  pub log2_h_chroma_subsample : ℕ
  pub log2_v_chroma_subsample : ℕ
  pub extra_plane : Bool
  pub num_h_slices_less_1 : ℕ
  pub num_v_slices_less_1 : ℕ
  pub sets : List SetFields
  pub ec : ℕ
  pub intra : ℕ

-- the fields before the tables, in their order; the last is quant_table_set_count
abbrev pub front_fields : RecordFields → List FieldValue
front_fields r =
    symbol r.version ∷ symbol r.micro_version ∷ symbol r.coder_type ∷ (map signed r.state_transition_delta ++
    symbol r.colorspace_type ∷ symbol r.bits_per_raw_sample ∷
    bit r.chroma_planes ∷ symbol r.log2_h_chroma_subsample ∷ symbol r.log2_v_chroma_subsample ∷ bit r.extra_plane ∷
    symbol r.num_h_slices_less_1 ∷ symbol r.num_v_slices_less_1 ∷ symbol (length r.sets) ∷ [])

-- the fields after the deltas
abbrev pub back_fields : RecordFields → List FieldValue
back_fields r = symbol r.ec ∷ symbol r.intra ∷ []

-- The rows of states: row 0 is that of the fields, row 1 + k that of the deltas of number k, row 33 + n that of table n,
-- counted over all sets. All states start at 128.

abbrev pub fresh_states : Rows
fresh_states row = fresh_row

-- each length of a run is coded less 1
abbrev pub run_fields : List ℕ → List FieldValue
run_fields runs = map (λ len. symbol (len - 1)) runs

unfoldable pub table_row_bits : ℕ → List (List ℕ) → List RowBits
table_row_bits n [] = []
table_row_bits n (runs ∷ tables) = (33 + n, fields_bits (run_fields runs)) ∷ table_row_bits (n + 1) tables

-- the deltas of a context, the first of number k
unfoldable pub context_row_bits : ℕ → List ℤ → List RowBits
context_row_bits k [] = []
context_row_bits k (delta ∷ deltas) = (1 + k, signed_symbol_bits delta) ∷ context_row_bits (k + 1) deltas

abbrev pub deltas_row_bits : Option (List (List ℤ)) → List RowBits
deltas_row_bits None = (0, fields_bits (bit false ∷ [])) ∷ []
deltas_row_bits (Some contexts) = (0, fields_bits (bit true ∷ [])) ∷ flat_map (context_row_bits 0) contexts

-- the whole record, the bits at one row of states after those at another
abbrev pub record_row_bits : RecordFields → List RowBits
record_row_bits r =
    (0, fields_bits (front_fields r))
    ∷ (table_row_bits 0 (flat_map (λ set. set.tables) r.sets)
    ++ (flat_map (λ set. deltas_row_bits set.deltas) r.sets
    ++ (0, fields_bits (back_fields r)) ∷ []))

-- ---- what is accepted

-- A set has a delta for each of the 32 states of each of its contexts, or none.
abbrev pub AreDeltas : ℕ → Option (List (List ℤ)) → Type 0
AreDeltas contexts None = Unit {0}
AreDeltas contexts (Some deltas) =
    (length deltas ≡ contexts) × All (λ context. (length context ≡ 32) × All (λ delta. IsSymbol (unsigned_abs delta)) context) deltas

pub record IsSetFields (set : SetFields) : Type 0 where
  pub tables : IsTableSet set.tables
  pub deltas : AreDeltas (set_of set.tables).contexts set.deltas

-- Symbols of a record, whatever they stand for.
pub record AreSymbols (r : RecordFields) : Type 0 where
  pub micro_version : IsSymbol r.micro_version
  pub coder_type : IsSymbol r.coder_type
  pub state_transition_delta : All (λ delta. IsSymbol (unsigned_abs delta)) r.state_transition_delta
  pub colorspace_type : IsSymbol r.colorspace_type
  pub bits_per_raw_sample : IsSymbol r.bits_per_raw_sample
  pub log2_h_chroma_subsample : IsSymbol r.log2_h_chroma_subsample
  pub log2_v_chroma_subsample : IsSymbol r.log2_v_chroma_subsample
  pub ec : IsSymbol r.ec
  pub intra : IsSymbol r.intra

-- The fields are those that a scope accepts, for frames of this width and height.
pub record IsAccepted (scope : Scope) (width height : ℕ) (r : RecordFields) : Type 0 where
  pub version : r.version ≡ 3
  pub micro_version : 4 ≤ r.micro_version
  pub coder_type : accepts_coder scope r.coder_type ≡ true
  pub state_transition_delta : length r.state_transition_delta ≡ delta_count r.coder_type
  pub colorspace_type : accepts_space scope r.colorspace_type ≡ true
  pub bits_per_raw_sample : accepts_depth scope r.bits_per_raw_sample ≡ true
  pub chroma_planes : accepts_chroma r.colorspace_type r.chroma_planes ≡ true
  pub log2_h_chroma_subsample : accepts_shift scope r.colorspace_type r.chroma_planes r.log2_h_chroma_subsample ≡ true
  pub log2_v_chroma_subsample : accepts_shift scope r.colorspace_type r.chroma_planes r.log2_v_chroma_subsample ≡ true
  pub extra_plane : accepts_extra_plane scope r.extra_plane ≡ true
  pub across : r.num_h_slices_less_1 + 1 ≤ width
  pub down : r.num_v_slices_less_1 + 1 ≤ height
  pub tiles : (r.num_h_slices_less_1 + 1) * (r.num_v_slices_less_1 + 1) ≤ most_tiles
  pub some_set : 1 ≤ length r.sets
  pub few_sets : length r.sets ≤ 8
  pub sets : All IsSetFields r.sets
  pub ec : accepts_ec scope r.ec ≡ true
  pub symbols : AreSymbols r

-- what the fields say; the shifts of a gray record are taken as 0
abbrev pub setup_value : ℕ → ℕ → RecordFields → SetupValue
setup_value width height r =
    record {
      micro = r.micro_version;
      has_chroma = r.chroma_planes;
      shift_h = if r.chroma_planes then r.log2_h_chroma_subsample else 0;
      shift_v = if r.chroma_planes then r.log2_v_chroma_subsample else 0;
      across = r.num_h_slices_less_1 + 1;
      down = r.num_v_slices_less_1 + 1;
      sets = map (λ set. set_of set.tables) r.sets;
      ec = r.ec;
      intra = r.intra;
      width = width;
      height = height;
    }

-- What a record says of any recording of version 3: what it says of one of the profile, and how samples are coded.
pub record RecordingValue : Type 0 where
  pub setup : SetupValue
  pub coder : ℕ
  pub transitions : Transitions
  pub is_rgb : Bool
  pub depth : ℕ
  pub has_alpha : Bool
  pub states : List StatesValue

-- 0 bits a sample stand for 8
abbrev pub recording_value : ℕ → ℕ → RecordFields → RecordingValue
recording_value width height r =
    record {
      setup = setup_value width height r;
      coder = r.coder_type;
      transitions = transitions_with (delta_bytes r.coder_type r.state_transition_delta);
      is_rgb = r.colorspace_type == 1;
      depth = if r.bits_per_raw_sample == 0 then 8 else r.bits_per_raw_sample;
      has_alpha = r.extra_plane;
      states = map (λ set. states_of (keeps_states r.coder_type) set.deltas) r.sets;
    }

-- states_coded of the set of this number
abbrev pub states_coded : RecordingValue → ℕ → Bool
states_coded recording set = (slice_index_or recording.states set uncoded_states).coded

-- the initial states of its contexts, where they are coded and of use
abbrev pub initial_of : RecordingValue → ℕ → Option (List (List ℕ))
initial_of recording set = (slice_index_or recording.states set uncoded_states).initial

-- a width or a height of the profile, in samples
abbrev pub IsSize : ℕ → Type 0
IsSize n = (1 ≤ n) × (n ≤ greatest_side)

-- what stands before the parity
abbrev pub record_content : List ℕ → List ℕ
record_content config = take (length config - 4) config

-- A configuration record, for frames of this width and height: it passes its parity, and some fields that the scope accepts are range-coded
-- in what stands before it.
pub record IsScopedRecord (config : List ℕ) (scope : Scope) (width height : ℕ) (value : RecordingValue) : Type 0 where
  pub passes : RecordPassesParity config
  pub is_width : IsSize width
  pub is_height : IsSize height
  pub fields : RecordFields
  pub accepted : IsAccepted scope width height fields
  pub start : Coder
  pub started : start_of true (record_content config) ≡ Ok start
  pub end : PlaceOf Rows
  pub coded : IsRowsRun record_mode (record { coder = start; states = fresh_states }) (record_row_bits fields) end
  pub is : value ≡ recording_value width height fields

-- what a record of version 3 says
abbrev pub IsRecordingOf : List ℕ → ℕ → ℕ → RecordingValue → Type 0
IsRecordingOf config width height value = IsScopedRecord config Version3 width height value

-- The setup of a configuration record: what it says, where it is one of the profile.
pub record IsSetupOf (config : List ℕ) (width height : ℕ) (value : SetupValue) : Type 0 where
  pub recording : RecordingValue
  pub record_of : IsScopedRecord config Profile width height recording
  pub is : value ≡ recording.setup

-- What each recording of version 3 keeps.
pub record IsInVersion3 (r : RecordingValue) : Type 0 where
  pub coder : r.coder ≤ 2
  pub some_depth : 8 ≤ r.depth
  pub few_depth : r.depth ≤ 16
  pub late : 4 ≤ r.setup.micro
  pub small_h : r.setup.shift_h ≤ 4
  pub small_v : r.setup.shift_v ≤ 4
  pub some_across : 1 ≤ r.setup.across
  pub coarse_across : r.setup.across ≤ r.setup.width
  pub some_down : 1 ≤ r.setup.down
  pub coarse_down : r.setup.down ≤ r.setup.height
  pub few_tiles : r.setup.across * r.setup.down ≤ most_tiles
  pub narrow : r.setup.width ≤ greatest_side
  pub low : r.setup.height ≤ greatest_side
  pub some_set : 1 ≤ length r.setup.sets
  pub few_sets : length r.setup.sets ≤ 8
  pub contexts : HaveContexts r.setup.sets
  pub states : length r.states ≡ length r.setup.sets
  pub initial : (set : ℕ) → IfSome (initial_of r set) (λ states. length states ≡ set_contexts r.setup set)

-- What each setup of the profile keeps.
pub record IsInProfile (setup : SetupValue) : Type 0 where
  pub late : 4 ≤ setup.micro
  pub small_h : setup.shift_h ≤ 2
  pub small_v : setup.shift_v ≤ 2
  pub some_across : 1 ≤ setup.across
  pub coarse_across : setup.across ≤ setup.width
  pub some_down : 1 ≤ setup.down
  pub coarse_down : setup.down ≤ setup.height
  pub few_tiles : setup.across * setup.down ≤ most_tiles
  pub narrow : setup.width ≤ greatest_side
  pub low : setup.height ≤ greatest_side
  pub some_set : 1 ≤ length setup.sets
  pub few_sets : length setup.sets ≤ 8
  pub contexts : HaveContexts setup.sets

-- What each recording of the profile keeps: it has Golomb-Rice codes, and Y, or Y, Cb and Cr, of 8 bits, and each slice has its parity.
pub record IsOfProfile (r : RecordingValue) : Type 0 where
  pub coder : r.coder ≡ 0
  pub is_rgb : r.is_rgb ≡ false
  pub depth : r.depth ≡ 8
  pub has_alpha : r.has_alpha ≡ false
  pub ec : r.setup.ec ≡ 1
  pub setup : IsInProfile r.setup

-- ---- laws

-- One record and size have one setup.
abbrev pub SetupIsOne : Type 0
SetupIsOne =
    (config : List ℕ) (width height : ℕ) (a b : SetupValue) → IsSetupOf config width height a → IsSetupOf config width height b → a ≡ b

-- A record's setup is of the profile.
abbrev pub SetupIsInProfile : Type 0
SetupIsInProfile = (config : List ℕ) (width height : ℕ) (setup : SetupValue) → IsSetupOf config width height setup → IsInProfile setup

-- One record and size say one thing of a recording.
abbrev pub RecordingIsOne : Type 0
RecordingIsOne =
    (config : List ℕ) (width height : ℕ) (a b : RecordingValue) → IsRecordingOf config width height a → IsRecordingOf config width height b
    → a ≡ b

-- A record's recording keeps the bounds of version 3.
abbrev pub RecordingIsInVersion3 : Type 0
RecordingIsInVersion3 = (config : List ℕ) (width height : ℕ) (r : RecordingValue) → IsRecordingOf config width height r → IsInVersion3 r

-- A record of the profile is one of version 3, with the same values.
abbrev pub SetupIsRecording : Type 0
SetupIsRecording =
    (config : List ℕ) (width height : ℕ) (setup : SetupValue) → IsSetupOf config width height setup
    → (r : RecordingValue) × IsRecordingOf config width height r × (setup ≡ r.setup)

-- What a record of the profile says of a recording is of the profile, and has the record's setup.
abbrev pub RecordingIsOfProfile : Type 0
RecordingIsOfProfile =
    (config : List ℕ) (width height : ℕ) (setup : SetupValue) (r : RecordingValue) → IsSetupOf config width height setup
    → IsRecordingOf config width height r → (setup ≡ r.setup) × IsOfProfile r
