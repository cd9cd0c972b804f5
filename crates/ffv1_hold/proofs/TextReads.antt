-- Reading text off a source, call after call.
use Rattle.ffv1_hold.proofs.Common.{◌≡◌, ℕ, ◌+◌, ◌≤◌, List, [], ◌∷◌, ◌++◌, length, Bool, true, false, arith, inl, subst, append-nil, ◌⊎◌, Consumes, Consumes-trans, file_limit, Tries, ReadLog, GoesOn, Reads, BreaksOff, GoesOn-refl, GoesOn-trans, GivesUp-after, HoldFileFault, TakesText, StopsAt, WentBefore}
use Rattle.ffv1_hold.specs.declared.file_fault.HoldFileFault.TheVariants as faults
use Rattle.ffv1_hold.proofs.ReadRefusals.{Takes-nil, Takes-trans, Refuses-after}

-- ---- texts

pub TakesText-nil : (a : ReadLog) (n : ℕ) → n ≤ file_limit → TakesText a a n n []
TakesText-nil a n h = record { text = Takes-nil _ n h; tries' = GoesOn-refl _; few = omega arith }

pub TakesText-trans : (a b c : ReadLog) (i j k : ℕ) (xs ys : List ℕ) → TakesText a b i j xs → TakesText b c j k ys → TakesText a c i k (xs ++ ys)
TakesText-trans a b c i j k xs ys p q = record {
  text = Takes-trans _ _ _ i j k xs ys p.text q.text;
  tries' = GoesOn-trans _ _ _ p.tries' q.tries';
  few = omega (arith, p.few, q.few);
}

-- four texts that were read one after the other
pub TakesText-four : {a b c d e : ReadLog} {i j k l m : ℕ} {ws xs ys zs : List ℕ} → TakesText a b i j ws → TakesText b c j k xs → TakesText c d k l ys
    → TakesText d e l m zs → TakesText a e i m (ws ++ xs ++ ys ++ zs)
TakesText-four w x y z =
    TakesText-trans _ _ _ _ _ _ _ _ (TakesText-trans _ _ _ _ _ _ _ _ (TakesText-trans _ _ _ _ _ _ _ _ w x) y) z

pub TakesText-from : (a b : ReadLog) (i j k : ℕ) (xs : List ℕ) → i ≡ j → TakesText a b i k xs → TakesText a b j k xs
TakesText-from a b i j k xs same t = subst (λ n. TakesText a b n k xs) same t

-- ---- refusals

pub went-before : (read : Bool) (a b c : Tries) → GoesOn a b → WentBefore read b c → WentBefore read a c
went-before true a b c p q = GivesUp-after a b c p q
went-before false a b c p q = GoesOn-trans a b c p q

module _ (P P' : List ℕ → Type 0) (W W' Q Q' : HoldFileFault → List ℕ → Type 0) (a b c : ReadLog) (i j : ℕ) (xs : List ℕ) (t : TakesText a b i j xs) where
  -- an earlier call read xs, and after it the faults are those of P, W and Q
  pub StopsAt-after : (f : HoldFileFault) → StopsAt P W Q b c j f
      → ((s : List ℕ) → P s → P' (xs ++ s)) → ((f : HoldFileFault) (s : List ℕ) → W f s → W' f (xs ++ s))
      → ((f : HoldFileFault) (s : List ℕ) → Q f s → Q' f (xs ++ s))
      → StopsAt P' W' Q' a c i f
  StopsAt-after f r p w q = grind (arith, Refuses-after, went-before)

module _ (P : List ℕ → Type 0) (W Q : HoldFileFault → List ℕ → Type 0) (a b : ReadLog) (i j : ℕ) (xs : List ℕ) (t : TakesText a b i j xs) where
  -- a fault that is shown by what was read
  abbrev IsShown : HoldFileFault → Type 0
  IsShown faults.TooLong = Unit {0}
  IsShown faults.Magic = Unit {0}
  IsShown (faults.Setup f) = Unit {0}
  IsShown faults.Tag = Unit {0}
  IsShown faults.Order = Unit {0}
  IsShown faults.NotASlice = Unit {0}
  IsShown _ = ⊥

  pub shown : (f : HoldFileFault) → IsShown f → Q f xs → StopsAt P W Q a b i f
  shown faults.TooLong is q = record { fault = inl (record { seen = xs; is = q; taken = t.text.taken; within = omega (arith, t.text.moved, t.text.within) }); tries' = t.tries'; few = omega (arith, t.few, t.text.within) }
  shown faults.Magic is q = record { fault = record { seen = xs; is = q; taken = t.text.taken; within = omega (arith, t.text.moved, t.text.within) }; tries' = t.tries'; few = omega (arith, t.few, t.text.within) }
  shown (faults.Setup f) is q = record { fault = record { seen = xs; is = q; taken = t.text.taken; within = omega (arith, t.text.moved, t.text.within) }; tries' = t.tries'; few = omega (arith, t.few, t.text.within) }
  shown faults.Tag is q = record { fault = record { seen = xs; is = q; taken = t.text.taken; within = omega (arith, t.text.moved, t.text.within) }; tries' = t.tries'; few = omega (arith, t.few, t.text.within) }
  shown faults.Order is q = record { fault = record { seen = xs; is = q; taken = t.text.taken; within = omega (arith, t.text.moved, t.text.within) }; tries' = t.tries'; few = omega (arith, t.few, t.text.within) }
  shown faults.NotASlice is q = record { fault = record { seen = xs; is = q; taken = t.text.taken; within = omega (arith, t.text.moved, t.text.within) }; tries' = t.tries'; few = omega (arith, t.few, t.text.within) }
  shown _ is q = absurd is

  -- no memory was granted after it
  pub memory_stops : P xs ⊎ W faults.Memory xs → StopsAt P W Q a b i faults.Memory
  memory_stops is = grind arith

-- the source was given up after bytes that were read within the limit
pub broke_off : (P : List ℕ → Type 0) (W Q : HoldFileFault → List ℕ → Type 0) (a b : ReadLog) (i : ℕ) (xs : List ℕ) → BreaksOff a b xs
    → i + length xs ≤ file_limit → P xs ⊎ W faults.Read xs → StopsAt P W Q a b i faults.Read
broke_off P W Q a b i xs r within is = grind arith

-- the next byte was asked for after a text
module _ (P : List ℕ → Type 0) (W Q : HoldFileFault → List ℕ → Type 0) (a b c : ReadLog) (i j : ℕ) (xs : List ℕ) (t : TakesText a b i j xs) where
  within : i + length xs ≤ file_limit
  within = omega (arith, t.text.moved, t.text.within)

  none : Consumes b.remaining c.remaining [] → Consumes a.remaining c.remaining xs
  none more = subst (Consumes _ _) (append-nil xs) (Consumes-trans _ _ _ xs [] t.text.taken more)

  pub broke_after : BreaksOff b c [] → P xs ⊎ W faults.Read xs → StopsAt P W Q a c i faults.Read
  broke_after r is = grind (arith, none, within, GivesUp-after)

  pub trailing : (more : ℕ) → Reads b c (more ∷ []) → W faults.Trailing xs → StopsAt P W Q a c i faults.Trailing
  trailing more r is = grind (arith, Consumes-trans, within, GoesOn-trans)

-- ---- what is derived
