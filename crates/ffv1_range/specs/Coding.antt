-- Range coding (RFC 9043, section 3.8.1.1).
use Rattle.std.specs.Prelude.{◌≡◌, ℕ, ◌+◌, ◌-◌, ◌*◌, ◌/◌, Bool, true, false, List, [], ◌∷◌, Result, Ok, Err, nat_lt, slice_index, slice_set, if◌then◌else◌}
use Rattle.ffv1_range.specs.Results.{◌>>>◌}
use Rattle.ffv1_range.specs.Transitions.{standard_transitions, state_following}
use Rattle.ffv1_range.specs.declared.transitions.Transitions.{Transitions}
use Rattle.ffv1_range.specs.declared.coding.RangeFault.{RangeFault}
use Rattle.ffv1_range.specs.declared.coding.RangeFault.TheVariants.{Start, Short}

-- A decoder between two bits: the range, the offset in it, and the bytes still to come.
pub record Coder : Type 0 where
  pub range : ℕ
  pub low : ℕ
  pub rest : List ℕ

-- Where the input is closed, zero bytes follow it; where it is not, no byte does.
abbrev pub with_byte : Bool → ℕ → ℕ → List ℕ → Result Coder RangeFault
with_byte closed range low (byte ∷ rest) = Ok record { range = 256 * range; low = 256 * low + byte; rest = rest }
with_byte true range low [] = Ok record { range = 256 * range; low = 256 * low; rest = [] }
with_byte false range low [] = Err Short

abbrev pub refilled : Bool → ℕ → ℕ → List ℕ → Result Coder RangeFault
refilled closed range low rest =
    if nat_lt range 256 then with_byte closed range low rest else Ok record { range = range; low = low; rest = rest }

-- One bit at a state: the range is cut in proportion to the state, and the offset says which part holds it.
unfoldable pub bit_at : Bool → Coder → ℕ → Result (Bool × Coder) RangeFault
bit_at closed c state =
    let part = c.range * state / 256 in
    if nat_lt c.low (c.range - part)
    then (refilled closed (c.range - part) c.low c.rest >>> λ d. Ok (false, d))
    else (refilled closed part (c.low - (c.range - part)) c.rest >>> λ d. Ok (true, d))

-- the start: the first two bytes, which do not reach the whole range
abbrev pub started : ℕ → List ℕ → Result Coder RangeFault
started low rest = if nat_lt low 65280 then Ok record { range = 65280; low = low; rest = rest } else Err Start

unfoldable pub start_of : Bool → List ℕ → Result Coder RangeFault
start_of closed (first ∷ second ∷ rest) = started (256 * first + second) rest
start_of true (first ∷ []) = started (256 * first) []
start_of true [] = started 0 []
start_of false (first ∷ []) = Err Short
start_of false [] = Err Short

-- A place in the input, with the states of the values that are read from there on.
pub record PlaceOf (X : Type 0) : Type 0 where
  pub coder : Coder
  pub states : X

-- a place with one row of states, of which a slot is one
abbrev pub Place : Type 0
Place = PlaceOf (List ℕ)

-- How values are read: whether zero bytes follow the input, and what states become.
pub record Mode : Type 0 where
  pub closed : Bool
  pub transitions : Transitions

-- how a configuration record is read: closed, and by the default table
abbrev pub record_mode : Mode
record_mode = record { closed = true; transitions = standard_transitions }

-- how a slice's content is read by some transitions: no byte follows it
abbrev pub sentinel_mode : Transitions → Mode
sentinel_mode transitions = record { closed = false; transitions = transitions }

-- how a header before Golomb-Rice codes is read
abbrev pub header_mode : Mode
header_mode = sentinel_mode standard_transitions

-- one bit at a slot of the row, whose state changes
unfoldable pub slot_at : Mode → Place → ℕ → Result (Bool × Place) RangeFault
slot_at mode p slot =
    bit_at mode.closed p.coder (slice_index p.states slot)
    >>> λ x. Ok (
      x.0,
      record {
        coder = x.1;
        states = slice_set p.states slot (state_following mode.transitions (slice_index p.states slot) x.0);
      },
    )

-- From p these bits are coded at these slots, up to q.
unfoldable pub IsRangeRun : Mode → Place → List (ℕ × Bool) → Place → Type 0
IsRangeRun mode p [] q = p ≡ q
IsRangeRun mode p (x ∷ xs) q = (m : Place) × (slot_at mode p x.0 ≡ Ok (x.1, m)) × IsRangeRun mode m xs q
