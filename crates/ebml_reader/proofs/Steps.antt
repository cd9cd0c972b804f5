-- Steps of an intake, one after the other.
use Rattle.std.proofs.Common.{◌≡◌, ℕ, ◌+◌, ◌-◌, ◌^◌, ◌≤◌, cond, List, [], ◌++◌, length, refl, sym, ap, ◌∙◌, subst, arith, inl, inr, ⊎_elim, append_assoc, append-nil, length-append, take, drop, take-append-drop, Bool, true, false, ◌<◌}
use Rattle.std.specs.Prelude.{◌⊎◌, ◌↔◌, IsTrue}
use Rattle.std.proofs.lemmas.Bool.{cases_lt}
use Rattle.ffv1_bits.proofs.Bytes.{no_bytes, AreBytes-append}
use Rattle.ffv1_devices.specs.Logs.{ReadLog, Reads, BreaksOff}
use Rattle.ffv1_devices.proofs.Steps.{Reads-nil, Reads-trans, BreaksOff-after}
use Rattle.ebml_reader.specs.Reader.{Held, IsFault, limit}
use Rattle.ebml_reader.specs.Intake.{Passes}
use Rattle.ebml_reader.specs.declared.fault.ReaderFault.{ReaderFault}
use Rattle.ebml_reader.specs.declared.fault.ReaderFault.TheVariants as faults

pub passes-nil : (held : Held) (log : ReadLog) → Passes [] held held log log
passes-nil held log = record {
  read = [];
  reads = Reads-nil log;
  are = no_bytes;
  joined = append-nil held.bytes;
  counted = omega arith;
  stays = λ ended. (refl, ended);
  end = λ ends ended. ends ended;
}

pub passes-trans : (p q : List ℕ) (a b c : Held) (x y z : ReadLog) → Passes p a b x y → Passes q b c y z → Passes (p ++ q) a c x z
passes-trans p q a b c x y z first second = record {
  read = first.read ++ second.read;
  reads = Reads-trans x y z first.read second.read first.reads second.reads;
  are = AreBytes-append first.read second.read first.are second.are;
  joined = sym (append_assoc a.bytes first.read second.read) ∙ ap (λ l. l ++ second.read) first.joined ∙ append_assoc p b.bytes second.read
      ∙ ap (λ l. p ++ l) second.joined ∙ sym (append_assoc p q c.bytes);
  counted = omega (arith, first.counted, second.counted, length-append first.read second.read);
  stays = λ ended. let one = first.stays ended in let other = second.stays one.1 in (ap (λ l. l ++ second.read) one.0 ∙ other.0, other.1);
  end = λ ends ended. second.end (first.end ends) ended;
}

pub fault-after : (fault : ReaderFault) (p : List ℕ) (a b : Held) (x y z : ReadLog) → Passes p a b x y → IsFault fault b.taken y z → IsFault fault a.taken x z
fault-after faults.Read p a b x y z first is = (
  first.read ++ is.0,
  ⊎_elim
      (λ (h : BreaksOff y z is.0). inl (BreaksOff-after x y z first.read is.0 first.reads h))
      (λ (h : Reads y z is.0 × (limit ≤ b.taken + length is.0)).
      inr (Reads-trans x y z first.read is.0 first.reads h.0, omega (arith, h.1, first.counted, length-append first.read is.0))) is.1,
)
fault-after faults.Memory p a b x y z first is = (first.read ++ is.0, Reads-trans x y z first.read is.0 first.reads is.1)

-- nothing passed in the second step
pub passes-fill : (p : List ℕ) (a b c : Held) (x y z : ReadLog) → Passes p a b x y → Passes [] b c y z → Passes p a c x z
passes-fill p a b c x y z first second = subst (λ q. Passes q a c x z) (append-nil p) (passes-trans p [] a b c x y z first second)

-- so many bytes passed, and none were read
pub passes-pass : (n : ℕ) (held : Held) (log : ReadLog) → Passes (take n held.bytes) held record { bytes = drop n held.bytes; taken = held.taken; ended = held.ended } log log
passes-pass n held log = record {
  read = [];
  reads = Reads-nil log;
  are = no_bytes;
  joined = append-nil held.bytes ∙ sym (take-append-drop n held.bytes);
  counted = omega arith;
  stays = λ ended. (refl, ended);
  end = λ ends ended. ends ended;
}

-- ---- all that is left of the file

pub left_is : (p : List ℕ) (a b : Held) (x y : ReadLog) (step : Passes p a b x y) (more : List ℕ) → a.bytes ++ (step.read ++ more) ≡ p ++ (b.bytes ++ more)
left_is p a b x y step more = sym (append_assoc a.bytes step.read more) ∙ ap (λ l. l ++ more) step.joined ∙ append_assoc p b.bytes more

pub still : (p : List ℕ) (a b : Held) (x y : ReadLog) (step : Passes p a b x y) (more : List ℕ) → (IsTrue b.ended → more ≡ []) → IsTrue a.ended → step.read ++ more ≡ []
still p a b x y step more ends ended = let stays = step.stays ended in ap (λ l. l ++ more) stays.0 ∙ ends stays.1

-- ---- how much can be read

abbrev pub left_to_read : Held → ℕ
left_to_read held = (2 ^ 63 - held.taken) + cond held.ended 0 1

pub less_left : (e f : Bool) (a b : ℕ) → e ≡ false → a < 2 ^ 63 → a ≤ b → (f ≡ true) ⊎ (a < b) → (2 ^ 63 - b) + cond f 0 1 < (2 ^ 63 - a) + cond e 0 1
less_left true f a b unended few more goes = absurd cc
less_left false true a b unended few more goes = omega arith
less_left false false a b unended few more (inl end) = absurd cc
less_left false false a b unended few more (inr less) = omega arith

pub has_by : (ended result : Bool) (long size : ℕ) → result ≡ false → IsTrue result ↔ (ended ≡ false) × (long < size) → (ended ≡ true) ⊎ (size ≤ long)
has_by true result long size stops lacks = inl refl
has_by false result long size stops lacks = elim (cases_lt long size) [
  | inl less ↦ let lacking : result ≡ true = lacks.1 (refl, less) in absurd cc
  | inr enough ↦ inr enough
]

pub more_taken : (p : List ℕ) (a b : Held) (x y : ReadLog) → Passes p a b x y → a.taken ≤ b.taken
more_taken p a b x y step = let counted = step.counted in omega (arith, counted)

-- memory was refused after some steps
pub memory_after : (p : List ℕ) (a b : Held) (x y : ReadLog) → Passes p a b x y → IsFault faults.Memory a.taken x y
memory_after p a b x y step = (step.read, step.reads)
