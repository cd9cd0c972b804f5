-- Reads that stop, one after the other.
use Rattle.std.proofs.Common.{ℕ, ◌+◌, ◌<◌, ◌≤◌, ◌⊎◌, max, List, ◌++◌, length, arith, inl, inr, ⊎_elim, length-append}
use Rattle.std.proofs.lemmas.Bool.{cases_lt}
use Rattle.std.specs.Io.KnownBytes.{IsAtEnd}
use Rattle.ffv1_devices.specs.Logs.{ReadLog, Reads, BreaksOff}
use Rattle.ffv1_devices.proofs.Steps.{Reads-trans, BreaksOff-after}
use Rattle.ffv1_devices.specs.Exact.{StopsReading, EndsBefore, GrowsAsRead, block}

pub StopsReading-after : (a b c : ReadLog) (xs ys : List ℕ) → Reads a b xs → StopsReading b c ys → StopsReading a c (xs ++ ys)
StopsReading-after a b c xs ys p q =
    ⊎_elim (λ (broken : BreaksOff b c ys). inl (BreaksOff-after a b c xs ys p broken))
    (λ (ends : Reads b c ys × IsAtEnd c.remaining). inr (Reads-trans a b c xs ys p ends.0, ends.1)) q

pub EndsBefore-after : (a b c : ReadLog) (xs : List ℕ) (m n : ℕ) → Reads a b xs → EndsBefore m b c → length xs + m ≤ n → EndsBefore n a c
EndsBefore-after a b c xs m n p ends le =
    (xs ++ ends.0, StopsReading-after a b c xs ends.0 p ends.1, omega (arith, length-append xs ends.0, ends.2, le))

pub EndsBefore-more : (a b : ReadLog) (m n : ℕ) → EndsBefore m a b → m ≤ n → EndsBefore n a b
EndsBefore-more a b m n ends le = (ends.0, ends.1, omega (arith, ends.2, le))

-- a source that ended was not given up
came : (a b : ReadLog) (bytes : List ℕ) → StopsReading a b bytes → Reads a b bytes ⊎ BreaksOff a b bytes
came a b bytes stops =
    ⊎_elim (λ (broken : BreaksOff a b bytes). inr broken) (λ (ends : Reads a b bytes × IsAtEnd b.remaining). inl ends.0) stops

-- room grew for what came first, and then the source stopped
pub GrowsAsRead-stopped : (a b c : ReadLog) (xs : List ℕ) (m before after : ℕ) → Reads a b xs → EndsBefore m b c
    → after ≤ max before (length xs + max (length xs) block) → GrowsAsRead before after a c
GrowsAsRead-stopped a b c xs m before after p ends grown =
    ⊎_elim (λ (more : before < after). inr (
      xs ++ ends.0,
      came a c (xs ++ ends.0) (StopsReading-after a b c xs ends.0 p ends.1),
      omega (arith, length-append xs ends.0, grown, more),
    )) (λ (same : after ≤ before). inl same) (cases_lt before after)
