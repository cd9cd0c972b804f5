-- What a range decoder stands for: how it reads, how long its content is, and where it is, or the fault that it met.
use Rattle.std.specs.Prelude.{◌≡◌, ℕ, ◌+◌, ◌≤◌, ◌<◌, Bool, List, length, Result, Ok, Err, Option, Some, None, slice_index, ◌==◌, ◌&&◌, not, nat_lt}
use Rattle.ffv1_range.specs.Results.{◌>>>◌}
use Rattle.ffv1_range.specs.Coding.{Coder, Mode, bit_at, start_of}
use Rattle.ffv1_range.specs.Transitions.{standard_transitions, state_following, IsBitState}
use Rattle.ffv1_range.specs.declared.coding.RangeEnd.{RangeEnd}
use Rattle.ffv1_range.specs.declared.coding.RangeFault.{RangeFault}

pub record Reader : Type 0 where
  pub mode : Mode
  pub total : ℕ
  pub at : Result Coder RangeFault

-- a decoder's fields as what they stand for
abbrev pub at_of : Option RangeFault → Coder → Result Coder RangeFault
at_of None c = Ok c
at_of (Some fault) c = Err fault

-- the same decoder at another place, or with a fault
abbrev pub reader_at : Reader → Result Coder RangeFault → Reader
reader_at r at = record { mode = r.mode; total = r.total; at = at }

-- what reading one bit gives
abbrev pub reads_bit : Reader → ℕ → Result (Bool × Coder) RangeFault
reads_bit r state = r.at >>> λ c. bit_at r.mode.closed c state

-- A call read one bit at a state: decoder and state are as they are after it.
abbrev pub ReadsBit : Reader → ℕ → Result Bool RangeFault → Reader → ℕ → Type 0
ReadsBit r state (Ok bit) s after =
    (c : Coder) × (reads_bit r state ≡ Ok (bit, c)) × (s ≡ reader_at r (Ok c)) × (after ≡ state_following r.mode.transitions state bit)
ReadsBit r state (Err e) s after = reads_bit r state ≡ Err e

-- After a fault the decoder keeps that fault, and so returns it from then on.
abbrev pub KeepsFault : {A : Type 0} → Reader → Result A RangeFault → Reader → Type 0
KeepsFault r (Ok a) s = Unit {0}
KeepsFault r (Err e) s = s ≡ reader_at r (Err e)

abbrev pub AreStates : List ℕ → Type 0
AreStates states = (i : ℕ) → i < length states → IsBitState (slice_index states i)

-- By the default table a row's states stay from 8 to 248, where a fault is met too.
abbrev pub KeepsStates : Reader → (old new : List ℕ) → Type 0
KeepsStates r old new = r.mode.transitions ≡ standard_transitions → AreStates old → AreStates new

-- A call made a decoder of this content.
abbrev pub Starts : Mode → List ℕ → Result Reader RangeFault → Type 0
Starts mode content (Ok r) =
    (c : Coder) × (start_of mode.closed content ≡ Ok c) × (r ≡ record { mode = mode; total = length content; at = Ok c })
Starts mode content (Err e) = start_of mode.closed content ≡ Err e

-- The end of the values: one bit of either value at state 129; the place is one byte before those that are still to come.
abbrev pub EndsAt : Reader → Result ℕ RangeFault → Type 0
EndsAt r (Ok place) = (x : Bool × Coder) × (reads_bit r 129 ≡ Ok x) × (place + 1 + length x.1.rest ≡ r.total)
EndsAt r (Err e) = reads_bit r 129 ≡ Err e

-- The end of a slice of coder_type 1 or 2: one bit at state 129, the offset after it, and the bytes that were not read.
abbrev pub EndsSo : Reader → Result RangeEnd RangeFault → Type 0
EndsSo r (Ok end) = (c : Coder) × (reads_bit r 129 ≡ Ok (end.bit, c)) × (end.low ≡ c.low) × (end.spare ≡ length c.rest)
EndsSo r (Err e) = reads_bit r 129 ≡ Err e

-- An end is clean where no byte is spare, the bit is 0, and the offset is below 256.
abbrev pub is_clean : RangeEnd → Bool
is_clean end = (end.spare == 0) && (not end.bit && nat_lt end.low 256)

-- what a coder keeps: the range has 9 to 16 bits, and the offset lies in it
pub record IsCoder (range low : ℕ) : Type 0 where
  pub wide : 256 ≤ range
  pub narrow : range ≤ 65280
  pub inside : low < range
