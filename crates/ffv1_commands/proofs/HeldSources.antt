-- Sources that the caller keeps, of holding files that are read in turn: what their logs show of a file shows it of a source that began
-- without a failure too.
use Rattle.std.proofs.Common.{◌≡◌, ◌+◌, ◌<◌, ℕ, suc, List, length, get_or, set, drop, map, Option, Result, Ok, Err, IfErr, rules, Bool, true, false, add-one, inl, inr, refl, sym, subst, arith}
use Rattle.ffv1_holding.specs.declared.recordings.Recordings.{Recordings}
use Rattle.ffv1_devices.specs.Logs.{Tries, ReadLog}
use Rattle.ffv1_devices.specs.Streams.{no_failures}
use Rattle.ffv1_holding.specs.Contents.{Contents}
use Rattle.ffv1_hold.specs.FileFaults.{ReadsHolding}
use Rattle.ffv1_hold.specs.Reading.{WentBefore, is_read}
use Rattle.ffv1_hold.specs.declared.file_fault.HoldFileFault.TheVariants as files
use Rattle.ffv1_commands.specs.Holdings.{HoldingStops, ReadsTaken, IsUnheld}
use Rattle.ffv1_commands.specs.InTurn.{ReadsAlone}
use Rattle.ffv1_commands.specs.Inner.Inputs.{Goes}
use Rattle.ffv1_commands.specs.JoinText.{IsReadAsFile, FileBreaks, JoinBreaks, IfFileUnread, IfLaterUnread}
use Rattle.ffv1_commands.specs.Inner.JoinText.{JoinsOne}
use Rattle.ffv1_commands.specs.declared.fault.CliFault.{CliFault}
use Rattle.ffv1_commands.specs.declared.fault.CliFault.TheVariants as faults
use Rattle.ffv1_commands.specs.declared.path.CommandPath.{CommandPath}
use Rattle.ffv1_commands.specs.declared.path.CommandPath.TheVariants as paths
use Rattle.ffv1_commands.proofs.Sources.{goes_anew, went_at, Kept, kept_at}

-- ---- a source that began without a failure

holding_anew : (recordings : Recordings) (a b : ReadLog) (h : Contents) → ReadsHolding recordings a b h
    → ReadsAlone (λ old new. ReadsHolding recordings old new h) a.remaining
holding_anew recordings a b h read = (
  record { remaining = b.remaining; tries = no_failures; taken = 0 },
  record {
    well_formed = read.well_formed;
    taken = read.taken;
    file = read.file;
    at_end = read.at_end;
    tries' = record { counted = omega arith; unbroken = refl; last = inl refl };
    few = omega arith;
  },
)

taken_anew : (recordings : Recordings) (a b : ReadLog) (taken : Contents) → ReadsTaken recordings a b taken → IsReadAsFile recordings a.remaining taken
taken_anew recordings a b taken (h, read, is) = let (log, so) = holding_anew recordings a b h read in (log, (h, so, is))

-- how its tries went
tries_anew : (given : Bool) → (tries : Tries) × WentBefore given no_failures tries
tries_anew true = (
  record { failures = 1; broken = 1; in_row = 0 },
  record {
    counted = omega arith;
    failed = inl (omega arith);
    gave_up = inl (inl (omega arith));
    broken_once = omega arith;
  },
)
tries_anew false = (no_failures, record { counted = omega arith; unbroken = refl; last = inl refl })

stops_anew : (recordings : Recordings) (path : CommandPath) (fault : CliFault) (a b : ReadLog) → HoldingStops recordings path fault a b → ReadsAlone (HoldingStops recordings path fault) a.remaining
stops_anew recordings path fault a b (f, is, stops) =
    let (tries, went) = tries_anew (is_read f) in
    (record { remaining = b.remaining; tries = tries; taken = 0 }, (f, is, record { fault = stops.fault; tries' = went; few = omega arith }))

join_breaks_anew : (recordings : Recordings) (path : CommandPath) (whole : Contents) (fault : CliFault) (a b : ReadLog) → JoinBreaks recordings path whole fault a b
    → ReadsAlone (JoinBreaks recordings path whole fault) a.remaining
join_breaks_anew recordings path whole fault a b (inl (inl stops)) = let (log, so) = stops_anew _ path fault a b stops in (log, inl (inl so))
join_breaks_anew recordings path whole fault a b (inl (inr (is, (h, read)))) = let (log, so) = taken_anew _ a b h read in (log, inl (inr (is, (h, so))))
join_breaks_anew recordings path whole fault a b (inr (is, (h, read, differs))) = let (log, so) = taken_anew _ a b h read in (log, inr (is, (h, so, differs)))

-- so is that of an input that is read so
module _ {C : Type 0} (went : C → C → ReadLog → ReadLog → Type 0) (remaining : C → Option (List ℕ))
    (left : (old new : C) (a b : ReadLog) → went old new a b → a.remaining ≡ remaining old) (recordings : Recordings) where
  pub goes_read : (h : Contents) (old new : C) → Goes went (λ a b. ReadsTaken recordings a b h) old new → IsReadAsFile recordings (remaining old) h
  goes_read h = goes_anew went remaining left (λ a b. ReadsTaken recordings a b h) (λ a b. taken_anew recordings a b h)

  pub join_goes : (path : CommandPath) (whole : Contents) (fault : CliFault) (old new : C) → Goes went (JoinBreaks recordings path whole fault) old new
      → ReadsAlone (JoinBreaks recordings path whole fault) (remaining old)
  join_goes path whole fault = goes_anew went remaining left (JoinBreaks recordings path whole fault) (join_breaks_anew recordings path whole fault)

-- the same file, read otherwise
pub joined_by : (IsRead Other : Contents → Type 0) (number : ℕ) (old new : Contents) (before after : List ℕ) (one : JoinsOne IsRead number old new before after)
    → Other one.other → JoinsOne Other number old new before after
joined_by IsRead Other number old new before after one read =
    record { other = one.other; file = read; same = one.same; held = one.held; line = one.line }

-- ---- a fault that says that a file was not read

-- names the file, and its source was given up
named_unheld : (recordings : Recordings) (path named : CommandPath) (a b : ReadLog) → HoldingStops recordings path (faults.Read named) a b → (named ≡ path) × IsUnheld recordings a b
named_unheld recordings path named a b (files.Read, is, stops) = (cc, stops)
named_unheld recordings path named a b (files.Write, is, stops) = absurd (cc)
named_unheld recordings path named a b (files.Memory, is, stops) = absurd (cc)
named_unheld recordings path named a b (fault, is, stops) = absurd (cc)

-- that of the first is of none after it
pub first_read : {X : Type 0} (recordings : Recordings) (Went : X → X → Type 0) (old new : List X) (fault : CliFault) (a b : ReadLog) → FileBreaks recordings (paths.Hold 0) fault a b
    → IfFileUnread Went old new fault
first_read recordings Went old new (faults.Read named) a b (inl stops) =
    subst (λ p. IfFileUnread Went old new (faults.Read p)) (sym (named_unheld _ (paths.Hold 0) named a b stops).0) tt
first_read recordings Went old new (faults.Read named) a b (inr (is, read)) = absurd (cc)
first_read recordings Went old new fault a b breaks = tt

module _ {C : Type 0} (recordings : Recordings) (went : C → C → ReadLog → ReadLog → Type 0) (old now : List C) (place : ℕ) (d new : C) where
  abbrev Unread : CliFault → Type 0
  Unread = IfFileUnread (Goes went (IsUnheld recordings)) old (set now place new)

  pub later_unread : (fault : CliFault) (whole : Contents) → drop place now ≡ drop place old → length now ≡ length old → place < length old
      → Goes went (JoinBreaks recordings (paths.Hold (place + 1)) whole fault) (get_or now place d) new → Unread fault
  later_unread (faults.Read named) whole same long there (a, b, so, inl (inl stops)) =
      let (is, unheld) = named_unheld _ (paths.Hold (place + 1)) named a b stops in
      subst (λ p. Unread (faults.Read p)) (sym is) (rw add-one (went_at (Goes went (IsUnheld recordings)) old now place d new same long there (a, b, so, unheld)))
  later_unread (faults.Read named) whole same long there (a, b, so, inl (inr (is, read))) = absurd (cc)
  later_unread (faults.Read named) whole same long there (a, b, so, inr (is, other)) = absurd (cc)
  later_unread fault whole same long there breaks = tt

-- the same of the logs of sources that the caller keeps
pub kept_unheld : {T R : Type 0} (recordings : Recordings) (log : R → ReadLog) (r : Result T CliFault) (old new : List R)
    → IfErr r (IfFileUnread (Kept log (IsUnheld recordings)) old new) → IfErr r (IfLaterUnread recordings (map log old) (map log new))
kept_unheld recordings log (Ok x) old new unread = tt
kept_unheld recordings log (Err (faults.Read (paths.Hold (suc place)))) old new unread = kept_at log (IsUnheld recordings) place old new unread
kept_unheld recordings log (Err fault) old new unread = search rules
