-- The form of a whole configuration record (RFC 9043, section 4.2): size and parity, then the groups of `Fields` and `TableForms`, with
-- the first fault.
use Rattle.std.specs.Prelude.{ℕ, Bool, true, List, [], map, length, Result, Ok, Err, nat_lt, nat_le, ◌==◌, ◌&&◌, if◌then◌else◌}
use Rattle.ffv1_bits.specs.Limits.{greatest_side}
use Rattle.ffv1_bits.specs.Bits.{bits_of}
use Rattle.ffv1_bits.specs.Parity.{remainder_of}
use Rattle.ffv1_range.specs.Results.{◌>>>◌}
use Rattle.ffv1_range.specs.Coding.{record_mode, start_of}
use Rattle.ffv1_range.specs.Forms.{Form, ◌>>=◌, giving, accepted, apart, from_place}
use Rattle.ffv1_range.specs.Fields.{PlanesValue, ShapeValue, TileCounts, versions, shape_fields, tile_counts, last_fields}
use Rattle.ffv1_range.specs.Tables.{SetValue}
use Rattle.ffv1_range.specs.TableForms.{fresh_row, set_count, sets_from, states_form}
use Rattle.ffv1_range.specs.InitialStates.{StatesValue, keeps_states}
use Rattle.ffv1_range.specs.Setup.{SetupValue, RecordingValue, record_content}
use Rattle.ffv1_range.specs.declared.scope.Scope.{Scope}
use Rattle.ffv1_range.specs.declared.scope.Scope.TheVariants.{Profile}
use Rattle.ffv1_range.specs.declared.fault.SetupFault.{SetupFault}
use Rattle.ffv1_range.specs.declared.fault.SetupFault.TheVariants.{TooShort, Parity, Range, Size, Memory}

-- what stands before the tables
pub record FrontValue : Type 0 where
  pub micro : ℕ
  pub shape : ShapeValue
  pub tiles : TileCounts
  pub sets : ℕ

abbrev pub front_form : Scope → ℕ → ℕ → Form (List ℕ) FrontValue SetupFault
front_form scope width height = do
  micro ← versions
  shape ← shape_fields scope
  tiles ← tile_counts width height
  sets ← set_count
  giving (record { micro = micro; shape = shape; tiles = tiles; sets = sets })

-- a setup from its parts
abbrev pub setup_of : ℕ → PlanesValue → TileCounts → List SetValue → ℕ → ℕ → ℕ → ℕ → SetupValue
setup_of micro shape tiles sets ec intra width height =
    record {
      micro = micro;
      has_chroma = shape.has_chroma;
      shift_h = shape.shift_h;
      shift_v = shape.shift_v;
      across = tiles.across;
      down = tiles.down;
      sets = sets;
      ec = ec;
      intra = intra;
      width = width;
      height = height;
    }

abbrev pub recording_of : FrontValue → List SetValue → List StatesValue → ℕ × ℕ → ℕ → ℕ → RecordingValue
recording_of front sets states last width height =
    record {
      setup = setup_of front.micro front.shape.planes front.tiles sets last.0 last.1 width height;
      coder = front.shape.coder;
      transitions = front.shape.transitions;
      is_rgb = front.shape.is_rgb;
      depth = front.shape.depth;
      has_alpha = front.shape.has_alpha;
      states = states;
    }

-- Which growths of memory are granted: that of the sets, and by the number of the set those of the states of its contexts.
pub record Grants : Type 0 where
  pub sets : Bool
  pub states : ℕ → Bool

abbrev pub all_granted : Grants
all_granted = record { sets = true; states = λ set. true }

-- The record's fields. Memory for the sets is wanted after quant_table_set_count, and for the states of a set after its states_coded.
abbrev pub record_form : Grants → Scope → ℕ → ℕ → Form (List ℕ) RecordingValue SetupFault
record_form granted scope width height = do
  front ← front_form scope width height
  has_memory ← accepted granted.sets Memory
  sets ← apart tt (sets_from front.sets [])
  states ← states_form granted.states (keeps_states front.shape.coder) (map (λ set. set.contexts) sets)
  last ← last_fields scope
  giving (recording_of front sets states last width height)

-- the bytes before the parity, where that passes
abbrev pub checked_content : List ℕ → Result (List ℕ) SetupFault
checked_content config =
    if nat_lt (length config) 6 then Err TooShort
    else (if remainder_of (bits_of config) == 0 then Ok (record_content config) else Err Parity)

abbrev pub is_size : ℕ → Bool
is_size n = nat_le 1 n && nat_le n greatest_side

-- what a record says, or the first fault
abbrev pub record_read : Grants → List ℕ → Scope → ℕ → ℕ → Result RecordingValue SetupFault
record_read granted config scope width height =
    checked_content config >>> λ content.
    if is_size width && is_size height
    then (from_place Range (start_of true content) (λ c. record_form granted scope width height record_mode (record { coder = c; states = fresh_row }))
    >>> λ x. Ok x.0)
    else Err Size

-- the setup of a record, or the first fault; with Golomb-Rice codes only memory for the sets is wanted
abbrev pub setup_read : Bool → List ℕ → ℕ → ℕ → Result SetupValue SetupFault
setup_read granted config width height = record_read (record { sets = granted; states = λ set. true }) config Profile width height >>> λ r. Ok r.setup
