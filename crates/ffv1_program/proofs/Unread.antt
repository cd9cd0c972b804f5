-- What a command that says that a file was not read says of its sources.
use Rattle.std.proofs.Common.{◌≡◌, ◌+◌, ◌∙◌, ap, Bool, List, [], ◌∷◌, ℕ, zero, suc, map, Bor, Option, Result, Ok, Err, IfErr, add-one, inl, inr, subst, sym, refl}
use Rattle.std.specs.List.{AllZip}
use Rattle.ffv1_devices.specs.Logs.{ReadLog, WriteLog}
use Rattle.ffv1_holding.specs.declared.recordings.Recordings.{Recordings}
use Rattle.ffv1_holding.specs.declared.recordings.Recordings.TheVariants.{Profile, Any}
use Rattle.ffv1_hold.specs.declared.file_fault.HoldFileFault.TheVariants as files
use Rattle.ffv1_commands.specs.Devices.{GivesUpWithin, IsUnread}
use Rattle.ffv1_commands.specs.Holdings.{HoldingStops, IsUnheld}
use Rattle.ffv1_commands.specs.ChainText.{ReportsChain}
use Rattle.ffv1_commands.specs.ShowText.{ReportsShow}
use Rattle.ffv1_commands.specs.SetupText.{ReportsSetup}
use Rattle.ffv1_commands.specs.ScanText.{ScansDevices}
use Rattle.ffv1_commands.specs.CheckText.{IsUnchecked, ChecksDevices}
use Rattle.ffv1_commands.specs.DecodeText.{ReportsDecode}
use Rattle.ffv1_commands.specs.ReportedText.{ReportsReport}
use Rattle.ffv1_commands.specs.RestoreText.{ReportsRestore}
use Rattle.ffv1_commands.specs.PictureText.{ReportsPicture}
use Rattle.ffv1_commands.specs.AnyPictureText.{ReportsAnyPicture}
use Rattle.ffv1_commands.specs.InTurn.{WentAt, IfCopyUnread}
use Rattle.ffv1_commands.specs.SpliceText.{ReportsSplice}
use Rattle.ffv1_commands.specs.TakeText.{ReportsTake}
use Rattle.ffv1_commands.specs.JoinText.{ReportsJoin, IfLaterUnread}
use Rattle.ffv1_commands.specs.MergeText.{ReportsMerge}
use Rattle.ffv1_commands.specs.MendText.{ReportsMend}
use Rattle.ffv1_commands.specs.SamplesText.{ReportsSamples}
use Rattle.ffv1_commands.proofs.SamplesSteps.{went_up_to}
use Rattle.ffv1_stretches.specs.Passes.{AreReadBut}
use Rattle.ffv1_stretches.specs.declared.pass.MendFault.TheVariants as stops
use Rattle.ffv1_player.specs.declared.playing.PlayFault.TheVariants as plays
use Rattle.ffv1_commands.specs.declared.fault.CliFault.{CliFault}
use Rattle.ffv1_commands.specs.declared.fault.CliFault.TheVariants as faults
use Rattle.ffv1_commands.specs.declared.path.CommandPath.{CommandPath}
use Rattle.ffv1_commands.specs.declared.path.CommandPath.TheVariants as paths
use Rattle.ffv1_program.specs.Inner.Calls.{IsLogAt}
use Rattle.ffv1_program.specs.Running.{words_of}
use Rattle.ffv1_program.specs.Unread.{IfUnread, SomeSource, GivesShort, HoldsAt, IsUnscanned, IsUndecoded, IsUntaken, IsUnjoined, IsUnmerged, IsSpliceUnread, IsUnmended, IsUnplayed}

pub unread_as : {T : Type 0} (P Q : CommandPath → Type 0) (r : Result T CliFault) → ((path : CommandPath) → P path → Q path)
    → IfErr r (IfUnread P) → IfErr r (IfUnread Q)
unread_as P Q (Ok value) then unread = tt
unread_as P Q (Err (faults.Read path)) then unread = then path unread
unread_as P Q (Err fault) then unread = tt

module _ {T : Type 0} (a b : ReadLog) (x y : WriteLog) where
  pub chain_unread : (r : Result T CliFault) → ReportsChain r a b x y → IfErr r (IfUnread (λ _. IsUnread a b))
  chain_unread (Ok value) reported = tt
  chain_unread (Err (faults.Read path)) (same, unread, kept) = unread
  chain_unread (Err fault) reported = tt

  pub show_unread : (width height : ℕ) (r : Result T CliFault) → ReportsShow r width height a b x y → IfErr r (IfUnread (λ _. IsUnread a b))
  show_unread width height (Ok value) reported = tt
  show_unread width height (Err (faults.Read path)) ((same, unread), kept) = unread
  show_unread width height (Err fault) reported = tt

  pub setup_unread : (width height : ℕ) (r : Result T CliFault) → ReportsSetup r width height a b x y → IfErr r (IfUnread (λ _. IsUnread a b))
  setup_unread width height (Ok value) reported = tt
  setup_unread width height (Err (faults.Read path)) ((same, unread), kept) = unread
  setup_unread width height (Err fault) reported = tt

-- both sources are of one file
module _ {Device : Type 0} (is_at : List ℕ → Device → Type 0) (log : Device → ReadLog) (word : List ℕ) (a b c d : Device) (at : is_at word a) (at_too : is_at word c) where
  pub check_unread : (x y : WriteLog) (r : Result Bool CliFault) → ChecksDevices r (log a) (log b) (log c) (log d) x y
      → IfErr r (IfUnread (λ _. SomeSource is_at log IsUnchecked word))
  check_unread x y (Ok value) reported = tt
  check_unread x y (Err (faults.Read path)) (same, inl (stopped, kept), printed) = (a, b, at, stopped)
  check_unread x y (Err (faults.Read path)) (same, inr (found, finds, unread), printed) = (c, d, at_too, unread)
  check_unread x y (Err fault) reported = tt

-- ---- holding files

unheld : (recordings : Recordings) (a b : ReadLog) (path : CommandPath) → HoldingStops recordings (paths.Hold 0) (faults.Read path) a b
    → IsUnheld recordings a b
unheld recordings a b path (files.Read, is, stops) = stops
unheld recordings a b path (files.Write, is, stops) = absurd (cc)
unheld recordings a b path (files.Memory, is, stops) = absurd (cc)
unheld recordings a b path (fault, is, stops) = absurd (cc)

module _ (recordings : Recordings) (a b : ReadLog) (x y : WriteLog) where
  pub report_unread : {T : Type 0} (r : Result T CliFault) → ReportsReport recordings r a b x y → IfErr r (IfUnread (λ _. IsUnheld recordings a b))
  report_unread (Ok value) reported = tt
  report_unread (Err (faults.Read path)) (inl (stops, kept)) = unheld recordings a b path stops
  report_unread (Err (faults.Read path)) (inr (h, read, breaks)) = absurd breaks
  report_unread (Err fault) reported = tt

module _ (recordings : Recordings) (a b : ReadLog) (o o' x y : WriteLog) where
  pub restore_unread : {T : Type 0} (r : Result T CliFault) → ReportsRestore recordings r a b o o' x y
      → IfErr r (IfUnread (λ _. IsUnheld recordings a b))
  restore_unread (Ok value) reported = tt
  restore_unread (Err (faults.Read path)) (inl (stops, kept)) = unheld recordings a b path stops
  restore_unread (Err (faults.Read path)) (inr (h, read, breaks)) = absurd breaks
  restore_unread (Err fault) reported = tt

module _ (a b : ReadLog) (o o' x y : WriteLog) where
  pub picture_unread : (r : Result Bool CliFault) → ReportsPicture r a b o o' x y → IfErr r (IfUnread (λ _. IsUnheld Profile a b))
  picture_unread (Ok value) reported = tt
  picture_unread (Err (faults.Read path)) (inl (stops, kept)) = unheld Profile a b path stops
  picture_unread (Err (faults.Read path)) (inr (h, read, breaks)) = absurd breaks
  picture_unread (Err fault) reported = tt

  pub any_picture_unread : (r : Result Bool CliFault) → ReportsAnyPicture r a b o o' x y → IfErr r (IfUnread (λ _. IsUnheld Any a b))
  any_picture_unread (Ok value) reported = tt
  any_picture_unread (Err (faults.Read path)) (inl (stops, kept)) = unheld Any a b path stops
  any_picture_unread (Err (faults.Read path)) (inr (h, read, breaks)) = absurd breaks
  any_picture_unread (Err fault) reported = tt

-- ---- two files

module _ {Device : Type 0} (is_at : List ℕ → Device → Type 0) (log : Device → ReadLog) (first second : List ℕ) (a b c d : Device) (at : is_at first a)
    (at_too : is_at second c) where
  pub scan_unread : (x y : WriteLog) (r : Result Bool CliFault) → ScansDevices r (log a) (log b) (log c) (log d) x y
      → IfErr r (IfUnread (IsUnscanned (SomeSource is_at log) first second))
  scan_unread x y (Ok value) reported = tt
  scan_unread x y (Err (faults.Read path)) (inl ((same, unread), kept, printed)) = subst (IsUnscanned (SomeSource is_at log) first second) (sym same) (a, b, at, unread)
  scan_unread x y (Err (faults.Read path)) (inr (same, (ranges, list, inl (front, scan)))) =
      subst (IsUnscanned (SomeSource is_at log) first second) (sym same) (c, d, at_too, (scan.bytes, inl scan.read))
  scan_unread x y (Err (faults.Read path)) (inr (same, (ranges, list, inr (front, scan, end, after)))) =
      subst (IsUnscanned (SomeSource is_at log) first second) (sym same) (c, d, at_too, (scan.bytes, inr (scan.read, end)))
  scan_unread x y (Err fault) reported = tt

  pub decode_unread : {T : Type 0} (width height : ℕ) (o o' x y : WriteLog) (r : Result T CliFault)
      → ReportsDecode r width height (log a) (log b) (log c) (log d) o o' x y → IfErr r (IfUnread (IsUndecoded (SomeSource is_at log) first second))
  decode_unread width height o o' x y (Ok value) reported = tt
  decode_unread width height o o' x y (Err (faults.Read path)) (inl ((same, unread), kept, printed)) =
      subst (IsUndecoded (SomeSource is_at log) first second) (sym same) (a, b, at, unread)
  decode_unread width height o o' x y (Err (faults.Read path)) (inr (setup, set, inl ((same, unread), kept))) =
      subst (IsUndecoded (SomeSource is_at log) first second) (sym same) (c, d, at_too, unread)
  decode_unread width height o o' x y (Err (faults.Read path)) (inr (setup, set, inr (frame, is, stops))) = absurd stops
  decode_unread width height o o' x y (Err fault) reported = tt

-- ---- sources that are read in turn

-- the source that went so is that of the word at its place
went_held : {Device : Type 0} (is_at : List ℕ → Device → Type 0) (log : Device → ReadLog) (Went : ReadLog → ReadLog → Type 0) (place : ℕ)
    (words : List (Bor (List ℕ))) (old new : List Device) → AllZip (λ word device. is_at word.now device) words old
    → WentAt Went place (map log old) (map log new) → HoldsAt (SomeSource is_at log Went) (words_of words) place
went_held is_at log Went zero (word ∷ words) (one ∷ old) (now ∷ new) all went = (word.now, refl, (one, now, all.0, went))
went_held is_at log Went (suc place) (word ∷ words) (one ∷ old) (now ∷ new) all went = went_held is_at log Went place words old new all.1 went
went_held is_at log Went place [] (one ∷ old) new all went = absurd all
went_held is_at log Went place (word ∷ words) [] new all went = absurd all
went_held is_at log Went zero [] [] new all went = absurd went
went_held is_at log Went (suc place) [] [] new all went = absurd went
went_held is_at log Went zero (word ∷ words) (one ∷ old) [] all went = absurd went
went_held is_at log Went (suc place) (word ∷ words) (one ∷ old) [] all went = absurd went

module _ {Device : Type 0} (is_at : List ℕ → Device → Type 0) (log : Device → ReadLog) (words : List (Bor (List ℕ))) (old new : List Device)
    (all : AllZip (λ word device. is_at word.now device) words old) where
  pub splice_unread : (remaining : Device → Option (List ℕ)) (o o' x y : WriteLog) (r : Result Bool CliFault) → ReportsSplice remaining r old new o o' x y
      → IfErr r (IfCopyUnread IsUnread (map log old) (map log new)) → IfErr r (IfUnread (IsSpliceUnread (SomeSource is_at log) (words_of words)))
  splice_unread remaining o o' x y (Ok value) reported unread = tt
  splice_unread remaining o o' x y (Err (faults.Read path)) (inl (stops, kept)) unread =
      let same : path ≡ paths.Copy stops.index = stops.stopped.1.0 in
      subst (IsSpliceUnread (SomeSource is_at log) (words_of words)) (sym same) (went_held is_at log IsUnread stops.index words old new all
      (subst (λ p. IfCopyUnread IsUnread (map log old) (map log new) (faults.Read p)) same unread))
  splice_unread remaining o o' x y (Err (faults.Read path)) (inr (copies, taken, refuses)) unread = absurd refuses
  splice_unread remaining o o' x y (Err fault) reported unread = tt

  module _ (word : List ℕ) (a b : Device) (at : is_at word a) where
    abbrev Untaken : CommandPath → Type 0
    Untaken = IsUntaken (SomeSource is_at log) word (words_of words)

    pub take_unread : (recordings : Recordings) (remaining : Device → Option (List ℕ)) (width height : ℕ) (o o' x y : WriteLog) (r : Result Bool CliFault)
        → ReportsTake recordings r remaining width height (log a) (log b) old new o o' x y → IfErr r (IfCopyUnread GivesUpWithin (map log old) (map log new))
        → IfErr r (IfUnread Untaken)
    take_unread recordings remaining width height o o' x y (Ok value) reported unread = tt
    take_unread recordings remaining width height o o' x y (Err (faults.Read path)) (inl ((same, not_read), as_before, kept)) unread = subst Untaken (sym same) (a, b, at, not_read)
    take_unread recordings remaining width height o o' x y (Err (faults.Read path)) (inr (inl (reel, read, stops, kept))) unread =
        let same : path ≡ paths.Copy stops.index = stops.stopped.1.0 in
        subst Untaken (sym same) (went_held is_at log GivesUpWithin stops.index words old new all
        (subst (λ p. IfCopyUnread GivesUpWithin (map log old) (map log new) (faults.Read p)) same unread))
    take_unread recordings remaining width height o o' x y (Err (faults.Read path)) (inr (inr (held, text, in_order, taken, inl (breaks, kept)))) unread = absurd breaks
    take_unread recordings remaining width height o o' x y (Err (faults.Read path)) (inr (inr (held, text, in_order, taken, inr (is, made)))) unread = absurd (cc)
    take_unread recordings remaining width height o o' x y (Err fault) reported unread = tt

    abbrev Unplayed : CommandPath → Type 0
    Unplayed = IsUnplayed (SomeSource is_at log) word (words_of words)

    pub samples_unread : (width height : ℕ) (o o' x y : WriteLog) (r : Result Bool CliFault)
        → ReportsSamples r width height (log a) (log b) (map log old) (map log new) o o' x y → IfErr r (IfUnread Unplayed)
    samples_unread width height o o' x y (Ok value) reported = tt
    samples_unread width height o o' x y (Err (faults.Read path)) (inl ((same, unread), as_before, kept)) = subst Unplayed (sym same) (a, b, at, unread)
    samples_unread width height o o' x y (Err (faults.Read path)) (inr (plays.Read place, is, (recording, takes, (payloads, frames, end, count, read, front)))) =
        let same : path ≡ paths.Copy place = cc in
        subst Unplayed (sym same) (went_held is_at log IsUnread place words old new all
        (subst (λ n. WentAt IsUnread n (map log old) (map log new)) (sym count) (went_up_to IsUnread (map log old) (map log new) payloads read)))
    samples_unread width height o o' x y (Err (faults.Read path)) (inr (plays.Samples number fault, is, played)) = absurd (cc)
    samples_unread width height o o' x y (Err (faults.Read path)) (inr (plays.Out, is, played)) = absurd (cc)
    samples_unread width height o o' x y (Err (faults.Read path)) (inr (plays.Output, is, played)) = absurd (cc)
    samples_unread width height o o' x y (Err (faults.Read path)) (inr (plays.Memory, is, played)) = absurd (cc)
    samples_unread width height o o' x y (Err fault) reported = tt

-- ---- holding files that are read in turn

-- the file that was not read is the one at this path
held_path : (recordings : Recordings) (path named : CommandPath) (a b : ReadLog) → HoldingStops recordings path (faults.Read named) a b → named ≡ path
held_path recordings path named a b (files.Read, is, stops) = cc
held_path recordings path named a b (files.Write, is, stops) = absurd (cc)
held_path recordings path named a b (files.Memory, is, stops) = absurd (cc)
held_path recordings path named a b (fault, is, stops) = absurd (cc)

module _ {Device : Type 0} (recordings : Recordings) (is_at : List ℕ → Device → Type 0) (log : Device → ReadLog) (words : List (Bor (List ℕ))) (old new : List Device)
    (all : AllZip (λ word device. is_at word.now device) words old) (word : List ℕ) (a b : Device) (at : is_at word a) where
  abbrev Unjoined : CommandPath → Type 0
  Unjoined = IsUnjoined recordings (SomeSource is_at log) word (words_of words)

  unjoined_first : (path : CommandPath) → HoldingStops recordings (paths.Hold 0) (faults.Read path) (log a) (log b) → Unjoined path
  unjoined_first path stops = subst Unjoined (sym (held_path recordings (paths.Hold 0) path _ _ stops)) (a, b, at, unheld recordings (log a) (log b) path stops)

  unjoined_later : (path : CommandPath) (i : ℕ) (c d : ReadLog) → HoldingStops recordings (paths.Hold (i + 1)) (faults.Read path) c d
      → IfLaterUnread recordings (map log old) (map log new) (faults.Read path) → Unjoined path
  unjoined_later path i c d stops unread =
      let same : path ≡ paths.Hold (suc i) = held_path recordings (paths.Hold (i + 1)) path c d stops ∙ ap paths.Hold (add-one i) in
      subst Unjoined (sym same) (went_held is_at log (IsUnheld recordings) i words old new all
      (subst (λ p. IfLaterUnread recordings (map log old) (map log new) (faults.Read p)) same unread))

  pub join_unread : {T : Type 0} (remaining : Device → Option (List ℕ)) (o o' x y : WriteLog) (r : Result T CliFault)
      → ReportsJoin recordings r remaining (log a) (log b) old new o o' x y → IfErr r (IfLaterUnread recordings (map log old) (map log new)) → IfErr r (IfUnread Unjoined)
  join_unread remaining o o' x y (Ok value) reported unread = tt
  join_unread remaining o o' x y (Err (faults.Read path)) (inl (inl (inl stops, same), kept)) unread = unjoined_first path stops
  join_unread remaining o o' x y (Err (faults.Read path)) (inl (inl (inr (is, read), same), kept)) unread = absurd (cc)
  join_unread remaining o o' x y (Err (faults.Read path)) (inl (inr (i, there, (whole, text, joined, (last, inl (inl stops))), later), kept)) unread =
      unjoined_later path i _ last stops unread
  join_unread remaining o o' x y (Err (faults.Read path)) (inl (inr (i, there, (whole, text, joined, (last, inl (inr (is, read)))), later), kept)) unread = absurd (cc)
  join_unread remaining o o' x y (Err (faults.Read path)) (inl (inr (i, there, (whole, text, joined, (last, inr (is, other))), later), kept)) unread = absurd (cc)
  join_unread remaining o o' x y (Err (faults.Read path)) (inr (whole, text, joined, inl (breaks, kept))) unread = absurd breaks
  join_unread remaining o o' x y (Err (faults.Read path)) (inr (whole, text, joined, inr (is, made))) unread = absurd (cc)
  join_unread remaining o o' x y (Err fault) reported unread = tt

-- ---- two streams that are joined

module _ {Device : Type 0} (recordings : Recordings) (is_at : List ℕ → Device → Type 0) (log : Device → ReadLog) (unopened : List ℕ → Type 0) (left right : List ℕ)
    (a b c d : Device) (at : is_at left a) (at_too : is_at right c) where
  abbrev Unmerged : CommandPath → Type 0
  Unmerged = IsUnmerged unopened (SomeSource is_at log) left right

  pub merge_unread : {T : Type 0} (x y : WriteLog) (r : Result T CliFault)
      → ReportsMerge recordings r (record { left = log a; right = log c; sink = x }) (record { left = log b; right = log d; sink = y }) → IfErr r (IfUnread Unmerged)
  merge_unread x y (Ok value) reported = tt
  merge_unread x y (Err (faults.Read path)) (files.Read, is, stops) =
      let same : path ≡ paths.Inputs = cc in
      subst Unmerged (sym same) (elim (stops.went.inputs) [ inl went ↦ inl (a, b, at, went.0) | inr went ↦ inr (c, d, at_too, went.1) ])
  merge_unread x y (Err (faults.Read path)) (files.Write, is, stops) = absurd (cc)
  merge_unread x y (Err (faults.Read path)) (files.Memory, is, stops) = absurd (cc)
  merge_unread x y (Err (faults.Read path)) (fault, is, stops) = absurd (cc)
  merge_unread x y (Err fault) reported = tt

-- ---- copies of a file, and their list

-- the copy that stopped went so
stopped_at : {Reader : Type 0} (log : Reader → ReadLog) (place : ℕ) (old new : List Reader) (read : List (List ℕ))
    → AreReadBut place (map log old) (map log new) read → WentAt GivesShort place (map log old) (map log new)
stopped_at log zero (one ∷ old) (now ∷ new) (bytes ∷ read) stops = (bytes, stops.0)
stopped_at log (suc place) (one ∷ old) (now ∷ new) (bytes ∷ read) stops = stopped_at log place old new read stops.1
stopped_at log zero [] new read stops = absurd stops
stopped_at log (suc place) [] new read stops = absurd stops
stopped_at log zero (one ∷ old) [] read stops = absurd stops
stopped_at log (suc place) (one ∷ old) [] read stops = absurd stops
stopped_at log zero (one ∷ old) (now ∷ new) [] stops = absurd stops
stopped_at log (suc place) (one ∷ old) (now ∷ new) [] stops = absurd stops

module _ {Device Reader : Type 0} (is_at : List ℕ → Device → Type 0) (log : Device → ReadLog) (source : Reader → Device) where
  -- the reader at a place is that of the word there
  reader_held : (Went : ReadLog → ReadLog → Type 0) (place : ℕ) (words : List (Bor (List ℕ))) (old new : List Reader)
      → AllZip (λ word reader. IsLogAt is_at log word.now (log (source reader))) words old
      → WentAt Went place (map (λ reader. log (source reader)) old) (map (λ reader. log (source reader)) new)
      → HoldsAt (SomeSource is_at log Went) (words_of words) place
  reader_held Went zero (word ∷ words) (one ∷ old) (now ∷ new) ((device, at, same), all) went =
      (word.now, refl, (device, source now, at, subst (λ (l : ReadLog). Went l (log (source now))) (sym same) went))
  reader_held Went (suc place) (word ∷ words) (one ∷ old) (now ∷ new) all went = reader_held Went place words old new all.1 went
  reader_held Went place [] (one ∷ old) new all went = absurd all
  reader_held Went place (word ∷ words) [] new all went = absurd all
  reader_held Went zero [] [] new all went = absurd went
  reader_held Went (suc place) [] [] new all went = absurd went
  reader_held Went zero (word ∷ words) (one ∷ old) [] all went = absurd went
  reader_held Went (suc place) (word ∷ words) (one ∷ old) [] all went = absurd went

  module _ (list : List ℕ) (words : List (Bor (List ℕ))) (a b : Device) (old now new : List Reader) (at : is_at list a)
      (all : AllZip (λ word reader. IsLogAt is_at log word.now (log (source reader))) words old) (here : now ≡ old) where
    abbrev Unmended : CommandPath → Type 0
    Unmended = IsUnmended (SomeSource is_at log) list (words_of words)

    pub mend_unread : (o o' x y : WriteLog) (r : Result Bool CliFault)
        → ReportsMend r (log a) (log b) (map (λ reader. log (source reader)) now) (map (λ reader. log (source reader)) new) o o' x y
        → IfErr r (IfUnread Unmended)
    mend_unread o o' x y (Ok value) reported = tt
    mend_unread o o' x y (Err (faults.Read path)) (inl ((same, unread), as_before, kept)) = subst Unmended (sym same) (a, b, at, unread)
    mend_unread o o' x y (Err (faults.Read path)) (inr (stops.Read copy, is, (stretches, listed, (front, read, mended, stopped, mends, ends, wrote, printed)))) =
        let same : path ≡ paths.Copy copy = cc in
        subst Unmended (sym same) (reader_held GivesShort copy words now new
        (subst (AllZip (λ word reader. IsLogAt is_at log word.now (log (source reader))) words) (sym here) all) (stopped_at (λ reader. log (source reader)) copy now new read stopped))
    mend_unread o o' x y (Err (faults.Read path)) (inr (stops.Out, is, listed)) = absurd (cc)
    mend_unread o o' x y (Err (faults.Read path)) (inr (stops.Output, is, listed)) = absurd (cc)
    mend_unread o o' x y (Err (faults.Read path)) (inr (stops.Memory, is, listed)) = absurd (cc)
    mend_unread o o' x y (Err fault) reported = tt
