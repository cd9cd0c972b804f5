-- Reading one form after the other.
use Rattle.std.proofs.Common.{◌≡◌, Bool, true, false, Result, Ok, Err, refl, sym, ap, ◌∙◌, subst}
use Rattle.std.specs.Prelude.{IsOk}
use Rattle.ffv1_range.specs.Results.{◌>>>◌}
use Rattle.ffv1_range.specs.Coding.{Mode, Coder, PlaceOf}
use Rattle.ffv1_range.specs.Decoder.{Reader, reader_at}
use Rattle.ffv1_range.specs.Forms.{Form, ◌>>=◌, giving, accepted, on, lifted, lifted_result, same_fault, from_place, form_at, ReadsForm}
use Rattle.ffv1_range.specs.declared.coding.RangeFault.{RangeFault}

pub bind_ok : {A B E : Type 0} (r : Result A E) (f : A → Result B E) (x : A) → r ≡ Ok x → (r >>> f) ≡ f x
bind_ok r f x e = ap (λ y. y >>> f) e

pub bind_err : {A B E : Type 0} (r : Result A E) (f : A → Result B E) (x : E) → r ≡ Err x → (r >>> f) ≡ Err x
bind_err r f x e = ap (λ y. y >>> f) e

pub from_place-bind : {A B E : Type 0} (lift : RangeFault → E) (at : Result Coder RangeFault) (f : Coder → Result A E) (g : A → Result B E)
    → (from_place lift at f >>> g) ≡ from_place lift at (λ c. f c >>> g)
from_place-bind lift (Ok c) f g = refl
from_place-bind lift (Err e) f g = refl

abbrev pub place_of : {X : Type 0} → Coder → X → PlaceOf X
place_of c states = record { coder = c; states = states }

-- reading p and then q is reading q where p ended
pub form_at-bind : {X A B E : Type 0} (lift : RangeFault → E) (p : Form X A E) (q : A → Form X B E) (r : Reader) (x : X)
    → form_at lift (p >>= q) r x ≡ (form_at lift p r x >>> λ y. q y.0 r.mode y.1)
form_at-bind lift p q r x = sym (from_place-bind lift r.at (λ c. p r.mode (place_of c x)) (λ y. q y.0 r.mode y.1))

-- What is left to read of a form: from the second decoder and states the second form gives what the first gives from the first.
pub record Continues {X A E : Type 0} (lift : RangeFault → E) (form : Form X A E) (r : Reader) (x : X) (rest : Form X A E) (s : Reader) (y : X) : Type 0 where
  pub same : form_at lift form r x ≡ form_at lift rest s y
  pub reader : s ≡ reader_at r s.at

pub continue_start : {X A E : Type 0} (lift : RangeFault → E) (form : Form X A E) (r : Reader) (x : X) → Continues lift form r x form r x
continue_start lift form r x = record { same = refl; reader = refl }

pub continue_step : {X A B E : Type 0} (lift : RangeFault → E) (p : Form X A E) (q : A → Form X B E) (r s : Reader) (x y : X) (a : A)
    → ReadsForm lift p r x (Ok a) s y → Continues lift (p >>= q) r x (q a) s y
continue_step lift p q r s x y a h =
    record {
      same = form_at-bind lift p q r x ∙ bind_ok (form_at lift p r x) (λ z. q z.0 r.mode z.1) (a, place_of h.0 y) h.1
          ∙ sym (ap (λ z. form_at lift (q a) z y) h.2);
      reader = h.2 ∙ ap (λ z. reader_at r z) (sym (ap (λ z. z.at) h.2));
    }

pub stop : {X A B E : Type 0} (lift : RangeFault → E) (p : Form X A E) (q : A → Form X B E) (r s : Reader) (x y : X) (e : E)
    → ReadsForm lift p r x (Err e) s y → ReadsForm lift (p >>= q) r x (Err e) s y
stop lift p q r s x y e h = form_at-bind lift p q r x ∙ bind_err (form_at lift p r x) (λ z. q z.0 r.mode z.1) e h

-- a decoder that comes from another, at one more place
pub reader_at-again : (r s : Reader) (at : Result Coder RangeFault) → s ≡ reader_at r s.at → reader_at s at ≡ reader_at r at
reader_at-again r s at e = ap (λ z. reader_at z at) e

pub at_ok : (r s : Reader) (c : Coder) → s ≡ reader_at r (Ok c) → s.at ≡ Ok c
at_ok r s c e = ap (λ z. z.at) e

-- a decoder that is at a place, and not at a fault
abbrev pub IsAtPlace : Reader → Type 0
IsAtPlace r = (c : Coder) × (r.at ≡ Ok c)

ok_place : (at : Result Coder RangeFault) → IsOk at → (c : Coder) × (at ≡ Ok c)
ok_place (Ok c) h = (c, refl)
ok_place (Err e) h = absurd cc

pub is_at_place : (r : Reader) → IsOk r.at → IsAtPlace r
is_at_place r h = ok_place r.at h

pub continue_end : {X A E : Type 0} (lift : RangeFault → E) (form rest : Form X A E) (r s t : Reader) (x y z : X) (result : Result A E)
    → Continues lift form r x rest s y → ReadsForm lift rest s y result t z → ReadsForm lift form r x result t z
continue_end lift form rest r s t x y z (Ok a) k h = (h.0, k.same ∙ h.1, h.2 ∙ reader_at-again r s (Ok h.0) k.reader)
continue_end lift form rest r s t x y z (Err e) k h = k.same ∙ h

pub continue_both : {X A E : Type 0} (lift : RangeFault → E) (form rest last : Form X A E) (r s t : Reader) (x y z : X)
    → Continues lift form r x rest s y → Continues lift rest s y last t z → Continues lift form r x last t z
continue_both lift form rest last r s t x y z k l =
    record { same = k.same ∙ l.same; reader = l.reader ∙ reader_at-again r s t.at k.reader }

-- where nothing is left to read, the value is given
pub continue_give : {X A E : Type 0} (lift : RangeFault → E) (r : Reader) (c : Coder) (x : X) (a : A) (form : Form X A E) → r.at ≡ Ok c
    → form r.mode (place_of c x) ≡ Ok (a, place_of c x) → ReadsForm lift form r x (Ok a) r x
continue_give lift r c x a form h g =
    (c, ap (λ z. from_place lift z (λ d. form r.mode (place_of d x))) h ∙ g, ap (reader_at r) h)

-- one more form is read
pub continue_next : {X A B E : Type 0} (lift : RangeFault → E) (form : Form X B E) (p : Form X A E) (q : A → Form X B E) (r s t : Reader) (x y z : X) (a : A)
    → Continues lift form r x (p >>= q) s y → ReadsForm lift p s y (Ok a) t z → Continues lift form r x (q a) t z
continue_next lift form p q r s t x y z a k h =
    continue_both lift form (p >>= q) (q a) r s t x y z k (continue_step lift p q s t y z a h)

-- a fault ends what is read
pub continue_stop : {X A B E : Type 0} (lift : RangeFault → E) (form : Form X B E) (p : Form X A E) (q : A → Form X B E) (r s t : Reader) (x y z : X) (e : E)
    → Continues lift form r x (p >>= q) s y → ReadsForm lift p s y (Err e) t z → ReadsForm lift form r x (Err e) t z
continue_stop lift form p q r s t x y z e k h =
    continue_end lift form (p >>= q) r s t x y z (Err e) k (stop lift p q s t y z e h)

-- the same, where what is left is known by an equation

pub next_of : {X A B E : Type 0} (lift : RangeFault → E) (form rest : Form X B E) (p : Form X A E) (q : A → Form X B E) (r s t : Reader) (x y z : X) (a : A)
    → rest ≡ (p >>= q) → Continues lift form r x rest s y → ReadsForm lift p s y (Ok a) t z → Continues lift form r x (q a) t z
next_of lift form rest p q r s t x y z a e k h = continue_next lift form p q r s t x y z a (subst (λ w. Continues lift form r x w s y) e k) h

pub stop_of : {X A B E : Type 0} (lift : RangeFault → E) (form rest : Form X B E) (p : Form X A E) (q : A → Form X B E) (r s t : Reader) (x y z : X) (f : E)
    → rest ≡ (p >>= q) → Continues lift form r x rest s y → ReadsForm lift p s y (Err f) t z → form_at lift form r x ≡ Err f
stop_of lift form rest p q r s t x y z f e k h = continue_stop lift form p q r s t x y z f (subst (λ w. Continues lift form r x w s y) e k) h

pub end_of : {X A E : Type 0} (lift : RangeFault → E) (form rest : Form X A E) (r s : Reader) (x y : X) (a : A)
    → rest ≡ giving a → IsAtPlace s → Continues lift form r x rest s y → ReadsForm lift form r x (Ok a) s y
end_of lift form rest r s x y a e at k =
    continue_end lift form (giving a) r s s x y y (Ok a) (subst (λ w. Continues lift form r x w s y) e k) (continue_give lift s at.0 y a (giving a) at.1 refl)

-- ---- a form as part of a larger one

form_at-lifted : {X A E : Type 0} (lift : RangeFault → E) (form : Form X A RangeFault) (mode : Mode) (at : Result Coder RangeFault) (x : X)
    → from_place lift at (λ c. lifted lift form mode (place_of c x)) ≡ lifted_result lift (from_place same_fault at (λ c. form mode (place_of c x)))
form_at-lifted lift form mode (Ok c) x = refl
form_at-lifted lift form mode (Err e) x = refl

pub read_lifted : {X A E : Type 0} (lift : RangeFault → E) (form : Form X A RangeFault) (r s : Reader) (x y : X) (a : A)
    → ReadsForm same_fault form r x (Ok a) s y → ReadsForm lift (lifted lift form) r x (Ok a) s y
read_lifted lift form r s x y a h = (h.0, form_at-lifted lift form r.mode r.at x ∙ ap (lifted_result lift) h.1, h.2)

pub fault_lifted : {X A E : Type 0} (lift : RangeFault → E) (form : Form X A RangeFault) (r s : Reader) (x y : X) (e : RangeFault)
    → ReadsForm same_fault form r x (Err e) s y → ReadsForm lift (lifted lift form) r x (Err (lift e)) s y
fault_lifted lift form r s x y e h = form_at-lifted lift form r.mode r.at x ∙ ap (lifted_result lift) h

put_back : {X Y A E : Type 0} → (X → Y → X) → X → Result (A × PlaceOf Y) E → Result (A × PlaceOf X) E
put_back put x (Ok y) = Ok (y.0, place_of y.1.coder (put x y.1.states))
put_back put x (Err e) = Err e

form_at-on : {X Y A E : Type 0} (lift : RangeFault → E) (get : X → Y) (put : X → Y → X) (form : Form Y A E) (mode : Mode) (at : Result Coder RangeFault)
    (x : X)
    → from_place lift at (λ c. on get put form mode (place_of c x)) ≡ put_back put x (from_place lift at (λ c. form mode (place_of c (get x))))
unfolding put_back
form_at-on lift get put form mode (Ok c) x =
    elim (form mode (place_of c (get x))) as (λ r. (r >>> λ y. Ok (y.0, place_of y.1.coder (put x y.1.states))) ≡ put_back put x r) [
      | Ok y ↦ refl
      | Err e ↦
          refl
    ]
form_at-on lift get put form mode (Err e) x = refl

pub read_on : {X Y A E : Type 0} (lift : RangeFault → E) (get : X → Y) (put : X → Y → X) (form : Form Y A E) (r s : Reader) (x : X) (y : Y)
    (result : Result A E)
    → ReadsForm lift form r (get x) result s y → ReadsForm lift (on get put form) r x result s (put x y)
unfolding put_back
read_on lift get put form r s x y (Ok a) h = (h.0, form_at-on lift get put form r.mode r.at x ∙ ap (put_back put x) h.1, h.2)
read_on lift get put form r s x y (Err e) h = form_at-on lift get put form r.mode r.at x ∙ ap (put_back put x) h

-- what was accepted changes nothing, and what was not is the fault
pub continue_accepted : {X B E : Type 0} (lift : RangeFault → E) (form : Form X B E) (test : Bool) (fault : E) (rest : Bool → Form X B E) (r s : Reader)
    (x y : X)
    → test ≡ true → Continues lift form r x (accepted test fault >>= rest) s y → Continues lift form r x (rest true) s y
continue_accepted lift form test fault rest r s x y t k = subst (λ z. Continues lift form r x (accepted z fault >>= rest) s y) t k

pub refused : {X B E : Type 0} (lift : RangeFault → E) (form : Form X B E) (test : Bool) (fault : E) (rest : Bool → Form X B E) (r s : Reader) (x y : X)
    → test ≡ false → IsAtPlace s → Continues lift form r x (accepted test fault >>= rest) s y → form_at lift form r x ≡ Err fault
refused lift form test fault rest r s x y t place k =
    k.same ∙ ap (λ z. form_at lift (accepted z fault >>= rest) s y) t
    ∙ ap (λ z. from_place lift z (λ c. Err fault)) place.1
