-- Steps of a device, one after the other.
use Rattle.std.proofs.Common.{◌≡◌, ℕ, ◌+◌, ◌-◌, ◌^◌, ◌<◌, ◌≤◌, List, [], ◌++◌, arith, inl, inr, refl, ap, ◌∙◌, subst, ⊎_elim, le_refl, le_trans, length-append, append-nil, Result, Ok, Err}
use Rattle.std.proofs.KnownBytes.{Consumes-nil, Consumes-trans, Appends-nil, Appends-trans}
use Rattle.ffv1_devices.specs.Logs.{Tries, ReadLog, WriteLog, GoesOn, GivesUp, ReadsWhile, Reads, BreaksOff, Writes, StopsWriting, HasFailed, HasCounted, CountsBytes, most_tries, sum_to_limit}
use Rattle.ffv1_devices.specs.Results.{WritesAll}
use Rattle.ffv1_devices.proofs.Fronts.{front-append, front-after}

-- ---- tries

pub GoesOn-refl : (a : Tries) → GoesOn a a
GoesOn-refl a = record { counted = le_refl _; unbroken = refl; last = inr refl }

pub GoesOn-trans : (a b c : Tries) → GoesOn a b → GoesOn b c → GoesOn a c
GoesOn-trans a b c p q = record {
  counted = le_trans p.counted q.counted;
  unbroken = q.unbroken ∙ p.unbroken;
  last = ⊎_elim (λ (h : c.in_row ≡ 0). inl h)
      (λ (h : c ≡ b). ⊎_elim (λ (k : b.in_row ≡ 0). inl (ap (λ (t : Tries). t.in_row) h ∙ k)) (λ (k : b ≡ a). inr (h ∙ k)) p.last) q.last;
}

pub failed-after : (a b c : ℕ) → a ≤ b → HasFailed b c → HasFailed a c
failed-after a b c le h = ⊎_elim (λ (p : b < c). inl (omega arith)) (λ (p : 2 ^ 64 - 1 ≤ c). inr p) h

counted-after : (n a b c : ℕ) → a ≤ b → HasCounted n b c → HasCounted n a c
counted-after n a b c le h = ⊎_elim (λ (p : b + n ≤ c). inl (omega arith)) (λ (p : 2 ^ 64 - 1 ≤ c). inr p) h

pub GivesUp-after : (a b c : Tries) → GoesOn a b → GivesUp b c → GivesUp a c
GivesUp-after a b c p q = record {
  counted = le_trans p.counted q.counted;
  failed = failed-after _ _ _ p.counted q.failed;
  gave_up = ⊎_elim (λ (h : HasFailed b.broken c.broken). inl (failed-after _ _ _ (omega (arith, p.unbroken)) h))
      (λ (h : HasCounted most_tries b.failures c.failures × (most_tries ≤ c.in_row)). inr (counted-after most_tries _ _ _ p.counted h.0, h.1)) q.gave_up;
  broken_once = omega (arith, p.unbroken, q.broken_once);
}

-- ---- a source

pub bytes-none : (a : ℕ) → CountsBytes 0 a a
bytes-none a = record { least = inl (omega arith); most = omega arith }

pub bytes-same : (a b : ℕ) → b ≡ a → CountsBytes 0 a b
bytes-same a b e = record { least = inl (omega arith); most = omega arith }

pub bytes-counted : (n a b : ℕ) → b ≡ sum_to_limit a n → CountsBytes n a b
bytes-counted n a b e = record { least = grind arith; most = grind arith }

bytes-trans : (m n k a b c : ℕ) → CountsBytes m a b → CountsBytes n b c → k ≡ m + n → CountsBytes k a c
bytes-trans m n k a b c p q e = record {
  least = ⊎_elim
      (λ (h : b + n ≤ c). ⊎_elim (λ (l : a + m ≤ b). inl (omega arith)) (λ (l : 2 ^ 64 - 1 ≤ b). inr (omega arith)) p.least)
      (λ (h : 2 ^ 64 - 1 ≤ c). inr h) q.least;
  most = omega (arith, p.most, q.most);
}

module _ (Went : Tries → Tries → Type 0) (after : (a b c : Tries) → GoesOn a b → Went b c → Went a c) where
  reads-after : (a b c : ReadLog) (xs ys : List ℕ) → Reads a b xs → ReadsWhile Went b c ys → ReadsWhile Went a c (xs ++ ys)
  reads-after a b c xs ys p q = record {
    bytes' = Consumes-trans _ _ _ xs ys p.bytes' q.bytes';
    taken' = bytes-trans _ _ _ _ _ _ p.taken' q.taken' (length-append xs ys);
    tries' = after _ _ _ p.tries' q.tries';
  }

pub Reads-nil : (a : ReadLog) → Reads a a []
Reads-nil a = record { bytes' = Consumes-nil _; taken' = bytes-none _; tries' = GoesOn-refl _ }

pub Reads-trans : (a b c : ReadLog) (xs ys : List ℕ) → Reads a b xs → Reads b c ys → Reads a c (xs ++ ys)
Reads-trans = reads-after GoesOn GoesOn-trans

pub BreaksOff-after : (a b c : ReadLog) (xs ys : List ℕ) → Reads a b xs → BreaksOff b c ys → BreaksOff a c (xs ++ ys)
BreaksOff-after = reads-after GivesUp GivesUp-after

-- a step that took nothing more
pub Reads-then_none : (a b c : ReadLog) (xs ys : List ℕ) → Reads a b xs → Reads b c ys → ys ≡ [] → Reads a c xs
Reads-then_none a b c xs ys p q e = subst (Reads a c) (ap (λ l. xs ++ l) e ∙ append-nil xs) (Reads-trans a b c xs ys p q)

pub BreaksOff-then_none : (a b c : ReadLog) (xs : List ℕ) → Reads a b xs → BreaksOff b c [] → BreaksOff a c xs
BreaksOff-then_none a b c xs p q = subst (BreaksOff a c) (append-nil xs) (BreaksOff-after a b c xs [] p q)

-- ---- a sink

pub Writes-nil : (a : WriteLog) → Writes a a []
Writes-nil a = record { bytes' = Appends-nil _; same = refl; tries' = GoesOn-refl _ }

pub Writes-trans : (a b c : WriteLog) (xs ys : List ℕ) → Writes a b xs → Writes b c ys → Writes a c (xs ++ ys)
Writes-trans a b c xs ys p q = record {
  bytes' = Appends-trans _ _ _ xs ys p.bytes' q.bytes';
  same = q.same ∙ p.same;
  tries' = GoesOn-trans _ _ _ p.tries' q.tries';
}

pub StopsWriting-after : (a b c : WriteLog) (xs ys : List ℕ) → Writes a b xs → StopsWriting b c ys → StopsWriting a c (xs ++ ys)
StopsWriting-after a b c xs ys p q = record {
  front = front-after _ _ _ xs ys p.bytes' q.front;
  same = q.same ∙ p.same;
  tries' = GivesUp-after _ _ _ p.tries' q.tries';
}

-- a part of what was to be written
pub StopsWriting-of : (a b : WriteLog) (xs ys : List ℕ) → StopsWriting a b xs → StopsWriting a b (xs ++ ys)
StopsWriting-of a b xs ys q = record { front = front-append _ _ xs ys q.front; same = q.same; tries' = q.tries' }

-- what was written stands after other bytes
pub WritesAll-after : {T E : Type 0} (r : Result T E) (a b c : WriteLog) (xs ys : List ℕ) → Writes a b xs → WritesAll r b c ys → WritesAll r a c (xs ++ ys)
WritesAll-after (Ok x) a b c xs ys p q = Writes-trans a b c xs ys p q
WritesAll-after (Err e) a b c xs ys p q = StopsWriting-after a b c xs ys p q
