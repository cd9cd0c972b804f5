-- Sources that the caller keeps, of copies that are read in turn: what their logs show of a copy shows it of a source that began without a
-- failure too.
use Rattle.std.proofs.Common.{◌≡◌, ◌<◌, ℕ, zero, suc, List, [], ◌∷◌, length, get_or, set, drop, map, Option, Result, Ok, Err, IfErr, inl, inr, refl, sym, subst, arith, rules}
use Rattle.ffv1_devices.specs.Logs.{ReadLog, Reads, BreaksOff}
use Rattle.ffv1_devices.specs.Streams.{no_failures}
use Rattle.ffv1_commands.specs.Devices.{TakesWhole, IsUnread, GivesUpWithin, FileStops, CopyStops}
use Rattle.ffv1_commands.specs.InTurn.{log_of, ReadsAlone, IsTaken, WentAt, IfCopyUnread}
use Rattle.ffv1_commands.specs.Inner.Inputs.{Goes}
use Rattle.ffv1_commands.specs.declared.fault.CliFault.{CliFault}
use Rattle.ffv1_commands.specs.declared.fault.CliFault.TheVariants as faults
use Rattle.ffv1_commands.specs.declared.path.CommandPath.{CommandPath}
use Rattle.ffv1_commands.specs.declared.path.CommandPath.TheVariants as paths

-- ---- a source that began without a failure

reads_anew : (a b : ReadLog) (bytes : List ℕ) → Reads a b bytes
    → Reads (log_of a.remaining) (record { remaining = b.remaining; tries = no_failures; taken = length bytes }) bytes
reads_anew a b bytes read = record {
  bytes' = read.bytes';
  taken' = record { least = inl (omega arith); most = omega arith };
  tries' = record { counted = omega arith; unbroken = refl; last = inl refl };
}

breaks_anew : (a b : ReadLog) (bytes : List ℕ) → BreaksOff a b bytes
    → BreaksOff (log_of a.remaining) (record { remaining = b.remaining; tries = record { failures = 1; broken = 1; in_row = 0 }; taken = length bytes }) bytes
breaks_anew a b bytes broke = record {
  bytes' = broke.bytes';
  taken' = record { least = inl (omega arith); most = omega arith };
  tries' = record { counted = omega arith; failed = inl (omega arith); gave_up = inl (inl (omega arith)); broken_once = omega arith };
}

pub takes_anew : (a b : ReadLog) (bytes : List ℕ) → TakesWhole a b bytes → IsTaken a.remaining bytes
takes_anew a b bytes took = (_, record { read = reads_anew a b bytes took.read; end = took.end; few = took.few })

unread_anew : (a b : ReadLog) → IsUnread a b → ReadsAlone IsUnread a.remaining
unread_anew a b (inl (bytes, broke, few)) = (_, inl (bytes, breaks_anew a b bytes broke, few))
unread_anew a b (inr (bytes, read, long)) = (_, inr (bytes, reads_anew a b bytes read, long))

pub file_stops_anew : (path : CommandPath) (fault : CliFault) (a b : ReadLog) → FileStops path fault a b → ReadsAlone (FileStops path fault) a.remaining
file_stops_anew path (faults.Read named) a b (same, unread) = let (log, so) = unread_anew a b unread in (log, (same, so))
file_stops_anew path faults.Memory a b (bytes, read, few) = (_, (bytes, reads_anew a b bytes read, few))
file_stops_anew path fault a b stops = absurd stops

pub copy_stops_anew : (path : CommandPath) (fault : CliFault) (a b : ReadLog) → CopyStops path fault a b → ReadsAlone (CopyStops path fault) a.remaining
copy_stops_anew path (faults.Read named) a b (same, (bytes, broke, few)) = (_, (same, (bytes, breaks_anew a b bytes broke, few)))
copy_stops_anew path (faults.Hold fault) a b (same, (bytes, read, long)) = (_, (same, (bytes, reads_anew a b bytes read, long)))
copy_stops_anew path faults.Memory a b (bytes, read, few) = (_, (bytes, reads_anew a b bytes read, few))
copy_stops_anew path fault a b stops = absurd stops

-- ---- an input that is read so

-- its source shows the bytes that the input had left
module _ {C : Type 0} (went : C → C → ReadLog → ReadLog → Type 0) (remaining : C → Option (List ℕ))
    (left : (old new : C) (a b : ReadLog) → went old new a b → a.remaining ≡ remaining old) where
  pub goes_anew : (Went : ReadLog → ReadLog → Type 0) → ((a b : ReadLog) → Went a b → ReadsAlone Went a.remaining) → (old new : C) → Goes went Went old new
      → ReadsAlone Went (remaining old)
  goes_anew Went anew old new (a, b, so, how) = subst (ReadsAlone Went) (left old new a b so) (anew a b how)

  pub goes_taken : (bytes : List ℕ) (old new : C) → Goes went (λ a b. TakesWhole a b bytes) old new → IsTaken (remaining old) bytes
  goes_taken bytes = goes_anew (λ a b. TakesWhole a b bytes) (λ a b. takes_anew a b bytes)

  pub file_goes : (path : CommandPath) (fault : CliFault) (old new : C) → Goes went (FileStops path fault) old new → ReadsAlone (FileStops path fault) (remaining old)
  file_goes path fault = goes_anew (FileStops path fault) (file_stops_anew path fault)

  pub copy_goes : (path : CommandPath) (fault : CliFault) (old new : C) → Goes went (CopyStops path fault) old new → ReadsAlone (CopyStops path fault) (remaining old)
  copy_goes path fault = goes_anew (CopyStops path fault) (copy_stops_anew path fault)

-- ---- the input at a place

-- the inputs before it were read, and those from it on are as they were
pub went_at : {X : Type 0} (Went : X → X → Type 0) (old now : List X) (place : ℕ) (d new : X) → drop place now ≡ drop place old → length now ≡ length old
    → place < length old → Went (get_or now place d) new → WentAt Went place old (set now place new)
went_at Went [] now place d new same long there went = absurd (omega arith)
went_at Went (one ∷ old) [] place d new same long there went = absurd (omega arith)
went_at {X} Went (one ∷ old) (two ∷ now) zero d new same long there went =
    let here : two ≡ one = cc in
    subst (λ (x : X). Went x new) here went
went_at Went (one ∷ old) (two ∷ now) (suc place) d new same long there went = went_at Went old now place d new same (omega arith) (omega arith) went

module _ {C : Type 0} (went : C → C → ReadLog → ReadLog → Type 0) (old now : List C) (place : ℕ) (d new : C) (same : drop place now ≡ drop place old)
    (long : length now ≡ length old) (there : place < length old) where
  -- it was not read as a file
  pub file_unread : (fault : CliFault) → Goes went (FileStops (paths.Copy place) fault) (get_or now place d) new
      → IfCopyUnread (Goes went IsUnread) old (set now place new) fault
  file_unread (faults.Read path) (a, b, so, (is, unread)) =
      subst (λ p. IfCopyUnread (Goes went IsUnread) old (set now place new) (faults.Read p)) (sym is)
      (went_at (Goes went IsUnread) old now place d new same long there (a, b, so, unread))
  file_unread fault stops = tt

  -- nor as a copy
  pub copy_unread : (fault : CliFault) → Goes went (CopyStops (paths.Copy place) fault) (get_or now place d) new
      → IfCopyUnread (Goes went GivesUpWithin) old (set now place new) fault
  copy_unread (faults.Read path) (a, b, so, (is, unread)) =
      subst (λ p. IfCopyUnread (Goes went GivesUpWithin) old (set now place new) (faults.Read p)) (sym is)
      (went_at (Goes went GivesUpWithin) old now place d new same long there (a, b, so, unread))
  copy_unread fault stops = tt

-- ---- sources that the caller keeps

module _ {C : Type 0} (log : C → ReadLog) (Went : ReadLog → ReadLog → Type 0) where
  abbrev pub Kept : C → C → Type 0
  Kept = Goes (λ old new a b. (a ≡ log old) × (b ≡ log new)) Went

  -- their logs went so
  pub kept_at : (place : ℕ) (old new : List C) → WentAt Kept place old new → WentAt Went place (map log old) (map log new)
  kept_at zero (one ∷ old) (two ∷ new) (a, b, (first, last), how) = subst (λ (l : ReadLog). Went l (log two)) first (subst (Went a) last how)
  kept_at (suc place) (one ∷ old) (two ∷ new) went = kept_at place old new went
  kept_at zero [] new went = absurd went
  kept_at zero (one ∷ old) [] went = absurd went
  kept_at (suc place) [] new went = absurd went
  kept_at (suc place) (one ∷ old) [] went = absurd went

  pub kept_unread : {T : Type 0} (r : Result T CliFault) (old new : List C) → IfErr r (IfCopyUnread Kept old new) → IfErr r (IfCopyUnread Went (map log old) (map log new))
  kept_unread (Ok x) old new unread = tt
  kept_unread (Err (faults.Read (paths.Copy place))) old new unread = kept_at place old new unread
  kept_unread (Err fault) old new unread = search rules
