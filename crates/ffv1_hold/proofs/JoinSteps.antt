-- Steps of both inputs and the sink, one after the other.
use Rattle.ffv1_hold.proofs.Common.{◌≡◌, ℕ, ◌≤◌, List, Option, Bool, false, Result, Ok, Err, arith, refl, sym, ◌∙◌, subst, file_limit, Tries, ReadLog, WriteLog, GoesOn, Writes, StopsWriting, GoesOn-refl, GoesOn-trans, HoldFileFault, FileEntry, Refuses, StopsAt, WentBefore, is_read, TakesText, EntryStops, Devices, is_write, TakesAtMost, AllGoOn, OneStops, MergeWent, StopsEntry}
use Rattle.ffv1_hold.specs.declared.file_fault.HoldFileFault.TheVariants as faults
use Rattle.ffv1_hold.proofs.TextReads.{went-before}

-- what refuses an input is no failure of the sink
refuses-not_write : (P : List ℕ → Type 0) (W Q : HoldFileFault → List ℕ → Type 0) (a b : Option (List ℕ)) (i : ℕ) (f : HoldFileFault)
    → Refuses P W Q a b i f → is_write f ≡ false
refuses-not_write P W Q a b i faults.Write r = absurd r
refuses-not_write P W Q a b i faults.Magic r = refl
refuses-not_write P W Q a b i (faults.Setup f) r = refl
refuses-not_write P W Q a b i faults.Truncated r = refl
refuses-not_write P W Q a b i faults.TooLong r = refl
refuses-not_write P W Q a b i faults.Tag r = refl
refuses-not_write P W Q a b i faults.Order r = refl
refuses-not_write P W Q a b i faults.NotASlice r = refl
refuses-not_write P W Q a b i faults.Trailing r = refl
refuses-not_write P W Q a b i faults.Read r = refl
refuses-not_write P W Q a b i faults.Memory r = refl
refuses-not_write P W Q a b i faults.OtherReel r = refl

-- what stops an entry is no failure of an input
stops-not_read : (a b : Option (List ℕ)) (room : ℕ) (e : FileEntry) (f : HoldFileFault) → EntryStops a b room e f → is_read f ≡ false
stops-not_read a b room e faults.Read r = absurd r
stops-not_read a b room e faults.Write r = refl
stops-not_read a b room e faults.Magic r = refl
stops-not_read a b room e (faults.Setup f) r = refl
stops-not_read a b room e faults.Truncated r = refl
stops-not_read a b room e faults.TooLong r = refl
stops-not_read a b room e faults.Tag r = refl
stops-not_read a b room e faults.Order r = refl
stops-not_read a b room e faults.NotASlice r = refl
stops-not_read a b room e faults.Trailing r = refl
stops-not_read a b room e faults.Memory r = refl
stops-not_read a b room e faults.OtherReel r = refl

still : (given : Bool) (a b : Tries) → given ≡ false → GoesOn a b → WentBefore given a b
still given a b e g = subst (λ (x : Bool). WentBefore x a b) (sym e) g

-- ---- steps in turn

takes-after : (a b c : Devices) (i j k : ℕ × ℕ) → TakesAtMost a b i j → TakesAtMost b c j k → TakesAtMost a c i k
takes-after a b c i j k p q = record { left' = omega (arith, p.left', q.left'); right' = omega (arith, p.right', q.right'); same = q.same ∙ p.same }

pub AllGoOn-trans : (a b c : Devices) (i j k : ℕ × ℕ) → AllGoOn a b i j → AllGoOn b c j k → AllGoOn a c i k
AllGoOn-trans a b c i j k p q = grind (arith, GoesOn-trans, takes-after)

pub OneStops-after : (f : HoldFileFault) (a b c : Devices) (i j : ℕ × ℕ) → AllGoOn a b i j → OneStops f b c j → OneStops f a c i
OneStops-after f a b c i j p q = grind (arith, went-before, takes-after, GoesOn-trans)

pub MergeWent-after : {T : Type 0} (r : Result T HoldFileFault) (a b c : Devices) (i j k : ℕ × ℕ) → AllGoOn a b i j → MergeWent r b c j k → MergeWent r a c i k
MergeWent-after (Ok x) a b c i j k p q = AllGoOn-trans a b c i j k p q
MergeWent-after (Err f) a b c i j k p q = OneStops-after f a b c i j p q

-- the fault is of no device
pub inside : (f : HoldFileFault) (a b : Devices) (i j : ℕ × ℕ) → AllGoOn a b i j → j.0 ≤ file_limit → j.1 ≤ file_limit
    → is_read f ≡ false → is_write f ≡ false → OneStops f a b i
inside f a b i j p left right read write = grind (arith, still)

-- ---- a step of one device

module _ (a b o : ReadLog) (s : WriteLog) (i j m : ℕ) where
  pub left_read : (xs : List ℕ) → TakesText a b i j xs
      → AllGoOn (record { left = a; right = o; sink = s }) (record { left = b; right = o; sink = s }) (i, m) (j, m)
  left_read xs t = grind (arith, GoesOn-refl)

  pub right_read : (xs : List ℕ) → TakesText a b i j xs
      → AllGoOn (record { left = o; right = a; sink = s }) (record { left = o; right = b; sink = s }) (m, i) (m, j)
  right_read xs t = grind (arith, GoesOn-refl)

module _ (P : List ℕ → Type 0) (W Q : HoldFileFault → List ℕ → Type 0) (a b o : ReadLog) (s : WriteLog) (i m : ℕ) (f : HoldFileFault) (within : m ≤ file_limit)
    (r : StopsAt P W Q a b i f) where
  pub left_stops : OneStops f (record { left = a; right = o; sink = s }) (record { left = b; right = o; sink = s }) (i, m)
  left_stops = grind (arith, GoesOn-refl, still, refuses-not_write)

  pub right_stops : OneStops f (record { left = o; right = a; sink = s }) (record { left = o; right = b; sink = s }) (m, i)
  right_stops = grind (arith, GoesOn-refl, still, refuses-not_write)

module _ (l r : ReadLog) (a b : WriteLog) (i : ℕ × ℕ) where
  pub wrote : (xs : List ℕ) → Writes a b xs → AllGoOn (record { left = l; right = r; sink = a }) (record { left = l; right = r; sink = b }) i i
  wrote xs w = grind (arith, GoesOn-refl)

  pub sink_stops : (xs : List ℕ) → StopsWriting a b xs → i.0 ≤ file_limit → i.1 ≤ file_limit
      → OneStops faults.Write (record { left = l; right = r; sink = a }) (record { left = l; right = r; sink = b }) i
  sink_stops xs w left right = grind (arith, GoesOn-refl)

  pub entry_stopped : (room : ℕ) (e : FileEntry) (f : HoldFileFault) → StopsEntry a b room e f → i.0 ≤ file_limit → i.1 ≤ file_limit
      → OneStops f (record { left = l; right = r; sink = a }) (record { left = l; right = r; sink = b }) i
  entry_stopped room e f w left right = grind (arith, still, stops-not_read, GoesOn-refl)
