-- What a form is: what reading gives from a place on, with the first fault. Refusals are stated in these words, and so is what a call that
-- reads has returned.
use Rattle.std.specs.Prelude.{◌≡◌, Bool, true, false, List, ℕ, Result, Ok, Err}
use Rattle.ffv1_range.specs.Results.{◌>>>◌}
use Rattle.ffv1_range.specs.Coding.{Mode, Coder, PlaceOf, slot_at}
use Rattle.ffv1_range.specs.Decoder.{Reader, reader_at}
use Rattle.ffv1_range.specs.declared.coding.RangeFault.{RangeFault}

-- A form says what reading from a place with states X gives: a value and the place after it, or the first fault.
abbrev pub Form : Type 0 → Type 0 → Type 0 → Type 0
Form X A E = Mode → PlaceOf X → Result (A × PlaceOf X) E

-- the forms p and then q
infixl 10 ◌>>=◌
abbrev pub ◌>>=◌ : {X A B E : Type 0} → Form X A E → (A → Form X B E) → Form X B E
(p >>= q) mode place = p mode place >>> λ x. q x.0 mode x.1

-- nothing is read, and this is the value
abbrev pub giving : {X A E : Type 0} → A → Form X A E
giving a mode place = Ok (a, place)

-- nothing is read, and this is the fault
abbrev pub refusing : {X A E : Type 0} → E → Form X A E
refusing fault mode place = Err fault

-- one bit at a slot of a row of states
abbrev pub slot_form : ℕ → Form (List ℕ) Bool RangeFault
slot_form slot mode place = slot_at mode place slot

-- what was read is accepted, or this is the fault
abbrev pub accepted : {X E : Type 0} → Bool → E → Form X Bool E
accepted true fault = giving true
accepted false fault = refusing fault

-- a form over a part of the states at hand: where that part is, and how it is put back
abbrev pub on : {X Y A E : Type 0} → (X → Y) → (X → Y → X) → Form Y A E → Form X A E
on get put form mode place =
    form mode (record { coder = place.coder; states = get place.states })
    >>> λ x. Ok (x.0, record { coder = x.1.coder; states = put place.states x.1.states })

-- a form at states of its own, which are new; those at hand stay
abbrev pub apart : {X Y A E : Type 0} → Y → Form Y A E → Form X A E
apart new = on (λ at_hand. new) (λ at_hand used. at_hand)

-- a fault of the range coder as one of a larger reader
abbrev pub lifted_result : {A E : Type 0} → (RangeFault → E) → Result A RangeFault → Result A E
lifted_result lift (Ok x) = Ok x
lifted_result lift (Err fault) = Err (lift fault)

abbrev pub lifted : {X A E : Type 0} → (RangeFault → E) → Form X A RangeFault → Form X A E
lifted lift form mode place = lifted_result lift (form mode place)

-- a fault of the range coder is itself where nothing larger is read
abbrev pub same_fault : RangeFault → RangeFault
same_fault fault = fault

-- what follows where a decoder is, or its fault
abbrev pub from_place : {A E : Type 0} → (RangeFault → E) → Result Coder RangeFault → (Coder → Result A E) → Result A E
from_place lift (Ok c) f = f c
from_place lift (Err fault) f = Err (lift fault)

-- what a form gives at a decoder and the states at hand
abbrev pub form_at : {X A E : Type 0} → (RangeFault → E) → Form X A E → Reader → X → Result (A × PlaceOf X) E
form_at lift form r states = from_place lift r.at (λ c. form r.mode (record { coder = c; states = states }))

-- A call read the form: it returned what the form gives; where that is a value, decoder and states are as they are after it.
abbrev pub ReadsForm : {X A E : Type 0} → (RangeFault → E) → Form X A E → Reader → X → Result A E → Reader → X → Type 0
ReadsForm lift form r states (Ok a) s after =
    (c : Coder) × (form_at lift form r states ≡ Ok (a, record { coder = c; states = after })) × (s ≡ reader_at r (Ok c))
ReadsForm lift form r states (Err e) s after = form_at lift form r states ≡ Err e
