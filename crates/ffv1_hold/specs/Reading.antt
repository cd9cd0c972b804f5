-- How the reading of a holding file stops at a fault.
use Rattle.std.specs.Prelude.{ℕ, ◌≡◌, ◌+◌, ◌≤◌, ◌⊎◌, List, [], ◌∷◌, ◌++◌, length, Option, Bool, true, false}
use Rattle.std.specs.Io.KnownBytes.{Consumes, IsAtEnd}
use Rattle.ffv1_bits.specs.Limits.{file_limit}
use Rattle.ffv1_devices.specs.Logs.{Tries, ReadLog, GoesOn, GivesUp}
use Rattle.ffv1_hold.specs.declared.file_fault.HoldFileFault.{HoldFileFault}
use Rattle.ffv1_hold.specs.declared.file_fault.HoldFileFault.TheVariants as faults

-- The bytes `seen` were taken from the place on, within the limit, and then the input ended.
pub record EndsIn (P : List ℕ → Type 0) (old new : Option (List ℕ)) (from : ℕ) : Type 0 where
  pub seen : List ℕ
  pub unfinished : P seen
  pub taken : Consumes old new seen
  pub at_end : IsAtEnd new
  pub within : from + length seen ≤ file_limit

-- The bytes `seen` were taken from the place on, within the limit, and no more.
pub record StopsIn (P : List ℕ → Type 0) (old new : Option (List ℕ)) (from : ℕ) : Type 0 where
  pub seen : List ℕ
  pub is : P seen
  pub taken : Consumes old new seen
  pub within : from + length seen ≤ file_limit

-- The bytes `seen` were taken from the place on, up to the limit, and one byte more.
pub record PassesIn (P : List ℕ → Type 0) (old new : Option (List ℕ)) (from : ℕ) : Type 0 where
  pub seen : List ℕ
  pub more : ℕ
  pub unfinished : P seen
  pub taken : Consumes old new (seen ++ more ∷ [])
  pub at_limit : from + length seen ≡ file_limit

-- The bytes `seen` were taken from the place on, within the limit, and one byte more.
pub record GoesOnIn (P : List ℕ → Type 0) (old new : Option (List ℕ)) (from : ℕ) : Type 0 where
  pub seen : List ℕ
  pub more : ℕ
  pub whole : P seen
  pub taken : Consumes old new (seen ++ more ∷ [])
  pub within : from + length seen ≤ file_limit

-- What a fault says of the bytes that were taken. P: they are unfinished, and show no fault. W: they are whole, and the fault comes
-- after them. Q: they show the fault.
abbrev pub Refuses : (List ℕ → Type 0) → (W Q : HoldFileFault → List ℕ → Type 0) → Option (List ℕ) → Option (List ℕ) → ℕ → HoldFileFault → Type 0
Refuses P W Q old new from faults.Read = StopsIn (λ s. P s ⊎ W faults.Read s) old new from
Refuses P W Q old new from faults.Memory = StopsIn (λ s. P s ⊎ W faults.Memory s) old new from
Refuses P W Q old new from faults.Write = ⊥
Refuses P W Q old new from faults.OtherReel = ⊥
Refuses P W Q old new from faults.Truncated = EndsIn P old new from
Refuses P W Q old new from faults.TooLong = StopsIn (Q faults.TooLong) old new from ⊎ PassesIn P old new from
Refuses P W Q old new from faults.Trailing = GoesOnIn (W faults.Trailing) old new from
Refuses P W Q old new from faults.Magic = StopsIn (Q faults.Magic) old new from
Refuses P W Q old new from (faults.Setup f) = StopsIn (Q (faults.Setup f)) old new from
Refuses P W Q old new from faults.Tag = StopsIn (Q faults.Tag) old new from
Refuses P W Q old new from faults.Order = StopsIn (Q faults.Order) old new from
Refuses P W Q old new from faults.NotASlice = StopsIn (Q faults.NotASlice) old new from

-- the source is the fault, and not memory or the bytes
abbrev pub is_read : HoldFileFault → Bool
is_read faults.Read = true
is_read _ = false

-- how the tries of a source went before a fault: it was given up where it is the fault
abbrev pub WentBefore : Bool → Tries → Tries → Type 0
WentBefore true = GivesUp
WentBefore false = GoesOn

-- Reading from the place on stopped at the fault, after at most one byte past the limit; at `Read` the source was given up.
pub record StopsAt (P : List ℕ → Type 0) (W Q : HoldFileFault → List ℕ → Type 0) (old new : ReadLog) (from : ℕ) (f : HoldFileFault) : Type 0 where
  pub fault : Refuses P W Q old.remaining new.remaining from f
  pub tries' : WentBefore (is_read f) old.tries new.tries
  pub few : new.taken + from ≤ old.taken + file_limit + 1
