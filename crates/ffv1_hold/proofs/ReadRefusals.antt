-- What a call that failed says, after bytes that an earlier call took.
use Rattle.ffv1_hold.proofs.Common.{◌⊎◌, ◌≡◌, ℕ, ◌+◌, ◌≤◌, List, length, [], ◌∷◌, ◌++◌, Option, arith, inl, inr, subst, sym, append_assoc, length-append, Consumes, Consumes-nil, Consumes-trans, file_limit, HoldFileFault, Takes, EndsIn, StopsIn, PassesIn, GoesOnIn, Refuses}
use Rattle.ffv1_hold.specs.declared.file_fault.HoldFileFault.TheVariants as faults

pub Takes-nil : (a : Option (List ℕ)) (n : ℕ) → n ≤ file_limit → Takes a a n n []
Takes-nil a n h = record { taken = Consumes-nil a; moved = omega arith; within = h }

pub Takes-trans : (a b c : Option (List ℕ)) (i j k : ℕ) (xs ys : List ℕ) → Takes a b i j xs → Takes b c j k ys → Takes a c i k (xs ++ ys)
Takes-trans a b c i j k xs ys p q = grind (arith, Consumes-trans, length-append)

-- an earlier call took xs
module _ (P P' : List ℕ → Type 0) (a b c : Option (List ℕ)) (i j : ℕ) (xs : List ℕ) (t : Takes a b i j xs) (more : (s : List ℕ) → P s → P' (xs ++ s)) where
  taken_all : (s : List ℕ) → Consumes b c s → Consumes a c (xs ++ s)
  taken_all s = Consumes-trans a b c xs s t.taken

  taken_one : (s : List ℕ) (x : ℕ) → Consumes b c (s ++ x ∷ []) → Consumes a c ((xs ++ s) ++ x ∷ [])
  taken_one s x taken = subst (Consumes a c) (sym (append_assoc xs s (x ∷ []))) (taken_all (s ++ x ∷ []) taken)

  moved : (s : List ℕ) → i + length (xs ++ s) ≡ j + length s
  moved s = omega (arith, t.moved, length-append xs s)

  EndsIn-after : EndsIn P b c j → EndsIn P' a c i
  EndsIn-after e = grind (arith, taken_all, moved)

  StopsIn-after : StopsIn P b c j → StopsIn P' a c i
  StopsIn-after e = grind (arith, taken_all, moved)

  PassesIn-after : PassesIn P b c j → PassesIn P' a c i
  PassesIn-after e = grind (arith, taken_one, moved)

  GoesOnIn-after : GoesOnIn P b c j → GoesOnIn P' a c i
  GoesOnIn-after e = grind (arith, taken_one, moved)

either : (P P' W W' : Type 0) → P ⊎ W → (P → P') → (W → W') → P' ⊎ W'
either P P' W W' (inl x) p w = inl (p x)
either P P' W W' (inr x) p w = inr (w x)

-- an earlier call took xs, and after it the faults are those of P, W and Q
pub Refuses-after : (P P' : List ℕ → Type 0) (W W' Q Q' : HoldFileFault → List ℕ → Type 0) (a b c : Option (List ℕ)) (i j : ℕ) (xs : List ℕ) (f : HoldFileFault)
    → Takes a b i j xs → Refuses P W Q b c j f
    → ((s : List ℕ) → P s → P' (xs ++ s)) → ((f : HoldFileFault) (s : List ℕ) → W f s → W' f (xs ++ s))
    → ((f : HoldFileFault) (s : List ℕ) → Q f s → Q' f (xs ++ s))
    → Refuses P' W' Q' a c i f
Refuses-after P P' W W' Q Q' a b c i j xs faults.Read t r p w q = grind (arith, StopsIn-after, either)
Refuses-after P P' W W' Q Q' a b c i j xs faults.Memory t r p w q = grind (arith, StopsIn-after, either)
Refuses-after P P' W W' Q Q' a b c i j xs faults.Write t r p w q = r
Refuses-after P P' W W' Q Q' a b c i j xs faults.OtherReel t r p w q = r
Refuses-after P P' W W' Q Q' a b c i j xs faults.Truncated t r p w q = EndsIn-after P P' a b c i j xs t p r
Refuses-after P P' W W' Q Q' a b c i j xs faults.TooLong t (inl r) p w q = inl (StopsIn-after _ _ a b c i j xs t (q faults.TooLong) r)
Refuses-after P P' W W' Q Q' a b c i j xs faults.TooLong t (inr r) p w q = inr (PassesIn-after P P' a b c i j xs t p r)
Refuses-after P P' W W' Q Q' a b c i j xs faults.Trailing t r p w q = GoesOnIn-after _ _ a b c i j xs t (w faults.Trailing) r
Refuses-after P P' W W' Q Q' a b c i j xs faults.Magic t r p w q = StopsIn-after _ _ a b c i j xs t (q faults.Magic) r
Refuses-after P P' W W' Q Q' a b c i j xs (faults.Setup f) t r p w q = StopsIn-after _ _ a b c i j xs t (q (faults.Setup f)) r
Refuses-after P P' W W' Q Q' a b c i j xs faults.Tag t r p w q = StopsIn-after _ _ a b c i j xs t (q faults.Tag) r
Refuses-after P P' W W' Q Q' a b c i j xs faults.Order t r p w q = StopsIn-after _ _ a b c i j xs t (q faults.Order) r
Refuses-after P P' W W' Q Q' a b c i j xs faults.NotASlice t r p w q = StopsIn-after _ _ a b c i j xs t (q faults.NotASlice) r
