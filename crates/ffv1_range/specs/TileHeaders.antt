-- The headers by which holdings tell slices (RFC 9043, sections 4.4 to 4.6; own: a slice that is held is of one tile). They are read and judged as
-- the profile's are; the recording says with which coder, and whether frames have to be keyframes.
use Rattle.std.specs.Prelude.{◌≡◌, ◌↔◌, ℕ, ◌+◌, ◌*◌, ◌<◌, Bool, true, false, not, IsTrue, List, [], ◌∷◌, ◌++◌, Option, MatchOption, is_some, Result, Ok, Err, slice_index, nat_lt, nat_le, ◌==◌, ◌&&◌, if◌then◌else◌, refl}
use Rattle.std.specs.List.{All, list_all}
use Rattle.std.specs.Coded.{Coded, code_by, coded×, coded_ℕ, coded_bool, coded_list}
use Rattle.ffv1_range.specs.Results.{◌>>>◌}
use Rattle.ffv1_range.specs.Transitions.{standard_transitions}
use Rattle.ffv1_range.specs.Coding.{Coder, Mode, sentinel_mode}
use Rattle.ffv1_range.specs.Scopes.{accepts_key}
use Rattle.ffv1_range.specs.Setup.{SetupValue, RecordingValue, IsRecordingOf, IsSetupOf}
use Rattle.ffv1_range.specs.Header.{IsHeaderOf, BeginAt, HeadLimits, header_limits, header_read, codes_read, is_in_place, head_read}
use Rattle.ffv1_range.specs.SliceHeader.{field_count, table_indexes}
use Rattle.ffv1_range.specs.declared.scope.Scope.{Scope}
use Rattle.ffv1_range.specs.declared.scope.Scope.TheVariants.{Profile, Version3}
use Rattle.ffv1_range.specs.declared.transitions.Transitions.{Transitions}
use Rattle.ffv1_range.specs.declared.head.HeadFault.{HeadFault}
use Rattle.ffv1_range.specs.declared.head.HeadFault.TheVariants.{OutsideGrid, Spans, TableIndex, FirstElsewhere}

-- ---- the profile

-- Golomb-Rice codes, gray or Y Cb Cr of 8 bits without alpha, parities, and shifts of at most 2
abbrev pub is_in_profile : RecordingValue → Bool
is_in_profile r =
    (r.coder == 0) && (not r.is_rgb && ((r.depth == 8) && (not r.has_alpha && ((r.setup.ec == 1) && (nat_le r.setup.shift_h 2 && nat_le r.setup.shift_v 2)))))

abbrev pub scope_by : Bool → Scope
scope_by is_profile = if is_profile then Profile else Version3

-- ---- what is asked of a slice

-- The rules of the slices of a recording's frames: frames of the profile are keyframes, which `is_profile` says. With coder_type 0, which
-- `has_codes` says, a header is read by the default table.
pub record TileRules : Type 0 where
  pub is_profile : Bool
  pub has_codes : Bool
  pub transitions : Transitions
  pub has_alpha : Bool
  pub limits : HeadLimits

abbrev pub rules_of : RecordingValue → TileRules
rules_of r =
    record {
      is_profile = is_in_profile r;
      has_codes = r.coder == 0;
      transitions = if r.coder == 0 then standard_transitions else r.transitions;
      has_alpha = r.has_alpha;
      limits = header_limits r.setup;
    }

-- those of a setup of the profile
abbrev pub profile_rules : SetupValue → TileRules
profile_rules setup =
    record { is_profile = true; has_codes = true; transitions = standard_transitions; has_alpha = false; limits = header_limits setup }

-- rules as one of the coded types
abbrev pub coded_transitions : Coded Transitions
coded_transitions =
    code_by (List ℕ × List ℕ) (coded× (coded_list coded_ℕ) (coded_list coded_ℕ)) (λ t. (t.zero, t.one)) (λ p. record { zero = p.0; one = p.1 }) (λ _. refl)

abbrev pub coded_rules : Coded TileRules
coded_rules =
    code_by (Bool × (Bool × (Transitions × (Bool × (ℕ × (ℕ × ℕ))))))
    (coded× coded_bool (coded× coded_bool (coded× coded_transitions (coded× coded_bool (coded× coded_ℕ (coded× coded_ℕ coded_ℕ))))))
    (λ r. (r.is_profile, (r.has_codes, (r.transitions, (r.has_alpha, (r.limits.across, (r.limits.down, r.limits.sets)))))))
    (λ p. record {
      is_profile = p.0;
      has_codes = p.1.0;
      transitions = p.1.1.0;
      has_alpha = p.1.1.1.0;
      limits = record { across = p.1.1.1.1.0; down = p.1.1.1.1.1.0; sets = p.1.1.1.1.1.1 };
    })
    (λ _. refl)

-- ---- the header

abbrev pub tile_mode : TileRules → Mode
tile_mode rules = sentinel_mode rules.transitions

-- nothing follows a content with Golomb-Rice codes, and one zero byte another (own)
abbrev pub tile_bytes : TileRules → List ℕ → List ℕ
tile_bytes rules content = if rules.has_codes then content else content ++ 0 ∷ []

-- the tile of a slice of one, counted row by row
abbrev pub tile_of_fields : TileRules → List ℕ → ℕ
tile_of_fields rules fields = slice_index fields 1 * rules.limits.across + slice_index fields 0

-- The content begins with the header of a slice of this tile alone. It is the payload's first exactly where the tile is 0, and then the
-- keyframe bit stands before the header.
pub record IsTileContent (rules : TileRules) (content : List ℕ) (first : Bool) (tile : ℕ) : Type 0 where
  pub key : Option Bool
  pub fields : List ℕ
  pub end : Coder
  pub header : IsHeaderOf (tile_mode rules) (field_count rules.has_alpha) (tile_bytes rules content) key fields end
  pub has_key : is_some key ≡ first
  pub takes_key : MatchOption key (Unit {0}) (λ bit. accepts_key (scope_by rules.is_profile) bit ≡ true)
  pub goes_on : rules.has_codes ≡ true → (place : ℕ) × BeginAt content end place
  pub column : slice_index fields 0 < rules.limits.across
  pub row : slice_index fields 1 < rules.limits.down
  pub width : slice_index fields 2 ≡ 0
  pub height : slice_index fields 3 ≡ 0
  pub tables : All (λ table. table < rules.limits.sets) (table_indexes rules.has_alpha fields)
  pub of_tile : tile ≡ tile_of_fields rules fields
  pub first_tile : IsTrue first ↔ (tile ≡ 0)

-- ---- the first fault

-- with Golomb-Rice codes the bit that ends the header's coding is read too
abbrev pub tile_codes : TileRules → List ℕ → Coder → Result (Unit {0}) HeadFault
tile_codes rules content end = if rules.has_codes then (codes_read content end >>> λ place. Ok tt) else Ok tt

-- the fields as a tile, or the first fault of them
abbrev pub tile_judged : TileRules → Bool → List ℕ → Result ℕ HeadFault
tile_judged rules first fields =
    if nat_lt (slice_index fields 0) rules.limits.across && nat_lt (slice_index fields 1) rules.limits.down
    then (if slice_index fields 2 == 0 && slice_index fields 3 == 0
    then (if list_all (λ table. nat_lt table rules.limits.sets) (table_indexes rules.has_alpha fields)
    then (if is_in_place first (tile_of_fields rules fields) then Ok (tile_of_fields rules fields) else Err FirstElsewhere)
    else Err TableIndex)
    else Err Spans)
    else Err OutsideGrid

-- the tile, or the first fault
abbrev pub tile_read : TileRules → List ℕ → Bool → Result ℕ HeadFault
tile_read rules content first =
    header_read (scope_by rules.is_profile) (tile_mode rules) (field_count rules.has_alpha) (tile_bytes rules content) first >>> λ read.
    tile_codes rules content read.end >>> λ _.
    tile_judged rules first read.fields

-- ---- laws

-- A content of the profile is of the tile that its header names.
abbrev pub HeadsTile : Type 0
HeadsTile =
    (setup : SetupValue) (content : List ℕ) (first : Bool)
    → tile_read (profile_rules setup) content first ≡ (head_read (header_limits setup) content first >>> λ head. Ok head.0.tile)

-- A recording of version 3 has a setup exactly where it is of the profile.
pub record RecordingInProfile : Type 0 where
  pub setup : (config : List ℕ) (width height : ℕ) (r : RecordingValue) → IsRecordingOf config width height r → is_in_profile r ≡ true
      → IsSetupOf config width height r.setup
  pub profile : (config : List ℕ) (width height : ℕ) (r : RecordingValue) (setup : SetupValue) → IsRecordingOf config width height r
      → IsSetupOf config width height setup → (is_in_profile r ≡ true) × (r.setup ≡ setup)
