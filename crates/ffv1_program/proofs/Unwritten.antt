-- What a command that says that a file was not written says of its sinks.
use Rattle.std.proofs.Common.{◌≡◌, ◌+◌, Bool, List, ℕ, Option, Result, Ok, Err, IfErr, inl, inr, subst, sym}
use Rattle.ffv1_devices.specs.Logs.{ReadLog, WriteLog, GivesUp}
use Rattle.ffv1_holding.specs.Contents.{Contents}
use Rattle.ffv1_holding.specs.declared.recordings.Recordings.{Recordings}
use Rattle.ffv1_hold.specs.declared.file_fault.HoldFileFault.TheVariants as files
use Rattle.ffv1_commands.specs.Devices.{BothStop}
use Rattle.ffv1_commands.specs.Holdings.{MadeBreaks}
use Rattle.ffv1_commands.specs.ChainText.{ReportsChain}
use Rattle.ffv1_commands.specs.ShowText.{ReportsShow}
use Rattle.ffv1_commands.specs.SetupText.{ReportsSetup}
use Rattle.ffv1_commands.specs.ScanText.{ScansDevices}
use Rattle.ffv1_commands.specs.CheckText.{ChecksDevices}
use Rattle.ffv1_commands.specs.DecodeText.{ReportsDecode}
use Rattle.ffv1_commands.specs.ReportedText.{ReportsReport}
use Rattle.ffv1_commands.specs.RestoreText.{ReportsRestore}
use Rattle.ffv1_commands.specs.PictureText.{ReportsPicture}
use Rattle.ffv1_commands.specs.AnyPictureText.{ReportsAnyPicture}
use Rattle.ffv1_commands.specs.SpliceText.{ReportsSplice}
use Rattle.ffv1_commands.specs.TakeText.{ReportsTake}
use Rattle.ffv1_commands.specs.JoinText.{ReportsJoin}
use Rattle.ffv1_commands.specs.MergeText.{ReportsMerge}
use Rattle.ffv1_commands.specs.MendText.{ReportsMend}
use Rattle.ffv1_commands.specs.SamplesText.{ReportsSamples}
use Rattle.ffv1_commands.proofs.HeldFiles.{unread_file}
use Rattle.ffv1_stretches.specs.declared.pass.MendFault.TheVariants as stops
use Rattle.ffv1_player.specs.declared.playing.PlayFault.TheVariants as plays
use Rattle.ffv1_commands.specs.declared.fault.CliFault.{CliFault}
use Rattle.ffv1_commands.specs.declared.fault.CliFault.TheVariants as faults
use Rattle.ffv1_commands.specs.declared.path.CommandPath.{CommandPath}
use Rattle.ffv1_commands.specs.declared.path.CommandPath.TheVariants as paths
use Rattle.ffv1_program.specs.Unwritten.{IfUnwritten, OfOutputs}

-- ---- what holds of OUT holds for more reasons

pub out_also : (Lost Out Printed : Type 0) (fault : CliFault) → (Lost → Out) → IfUnwritten (OfOutputs Lost Printed) fault
    → IfUnwritten (OfOutputs Out Printed) fault
out_also Lost Out Printed (faults.Write paths.Out) also lost = also lost
out_also Lost Out Printed (faults.Write paths.StandardOutput) also lost = lost
out_also Lost Out Printed (faults.Write path) also lost = absurd lost
out_also Lost Out Printed fault also lost = tt

pub err_out_also : {T : Type 0} (Lost Out Printed : Type 0) (r : Result T CliFault) → (Lost → Out) → IfErr r (IfUnwritten (OfOutputs Lost Printed))
    → IfErr r (IfUnwritten (OfOutputs Out Printed))
err_out_also Lost Out Printed (Ok value) also lost = tt
err_out_also Lost Out Printed (Err fault) also lost = out_also Lost Out Printed fault also lost

-- ---- commands that print

-- what is printed was given up
abbrev Printed : (x y : WriteLog) → CommandPath → Type 0
Printed x y = OfOutputs ⊥ (GivesUp x.tries y.tries)

module _ {T : Type 0} (a b : ReadLog) (x y : WriteLog) where
  pub chain_unwritten : (r : Result T CliFault) → ReportsChain r a b x y → IfErr r (IfUnwritten (Printed x y))
  chain_unwritten (Ok value) reported = tt
  chain_unwritten (Err (faults.Write path)) (same, (payload, text, took, is, breaks)) = subst (Printed x y) (sym same) breaks.tries'
  chain_unwritten (Err fault) reported = tt

  pub show_unwritten : (width height : ℕ) (r : Result T CliFault) → ReportsShow r width height a b x y → IfErr r (IfUnwritten (Printed x y))
  show_unwritten width height (Ok value) reported = tt
  show_unwritten width height (Err (faults.Write path)) (same, (setup, takes, breaks)) = subst (Printed x y) (sym same) breaks.tries'
  show_unwritten width height (Err fault) reported = tt

  pub setup_unwritten : (width height : ℕ) (r : Result T CliFault) → ReportsSetup r width height a b x y → IfErr r (IfUnwritten (Printed x y))
  setup_unwritten width height (Ok value) reported = tt
  setup_unwritten width height (Err (faults.Write path)) (same, (recording, takes, breaks)) = subst (Printed x y) (sym same) breaks.tries'
  setup_unwritten width height (Err fault) reported = tt

  pub report_unwritten : (recordings : Recordings) (r : Result T CliFault) → ReportsReport recordings r a b x y → IfErr r (IfUnwritten (Printed x y))
  report_unwritten recordings (Ok value) reported = tt
  report_unwritten recordings (Err (faults.Write path)) (inl (unread, kept)) =
      absurd (unread_file recordings a b (paths.Hold 0) (faults.Write path) unread)
  report_unwritten recordings (Err (faults.Write path)) (inr (h, read, (same, breaks))) = subst (Printed x y) (sym same) breaks.tries'
  report_unwritten recordings (Err fault) reported = tt

module _ (a b c d : ReadLog) (x y : WriteLog) where
  pub check_unwritten : (r : Result Bool CliFault) → ChecksDevices r a b c d x y → IfErr r (IfUnwritten (Printed x y))
  check_unwritten (Ok value) reported = tt
  check_unwritten (Err (faults.Write path)) (same, (report, takes, breaks)) = subst (Printed x y) (sym same) breaks.tries'
  check_unwritten (Err fault) reported = tt

  pub scan_unwritten : (r : Result Bool CliFault) → ScansDevices r a b c d x y → IfErr r (IfUnwritten (Printed x y))
  scan_unwritten (Ok value) reported = tt
  scan_unwritten (Err (faults.Write path)) (inl (listed, as_before, kept)) = absurd listed
  scan_unwritten (Err (faults.Write path)) (inr (same, (ranges, list, (front, scan, read)))) =
      subst (Printed x y) (sym same) scan.wrote.tries'
  scan_unwritten (Err fault) reported = tt

-- ---- commands that make a file, and print after that

module _ (o o' x y : WriteLog) where
  abbrev Lost : CommandPath → Type 0
  Lost = OfOutputs (GivesUp o.tries o'.tries) (GivesUp x.tries y.tries)

  -- one of both was given up
  both_lost : (path : CommandPath) (file text : List ℕ) → BothStop (faults.Write path) file text o o' x y → Lost path
  both_lost path file text (inl (same, breaks, kept)) = subst Lost (sym same) breaks.tries'
  both_lost path file text (inr (same, wrote, breaks)) = subst Lost (sym same) breaks.tries'

  made_lost : (path : CommandPath) (h : Contents) (text : List ℕ) → MadeBreaks h text o o' x y (faults.Write path) → Lost path
  made_lost path h text (inl ((same, (filed, of, fits, breaks)), kept)) = subst Lost (sym same) breaks.tries'
  made_lost path h text (inr (is, (file, saved, wrote, breaks))) =
      let same : path ≡ paths.StandardOutput = cc in
      subst Lost (sym same) breaks.tries'

  module _ (a b : ReadLog) where
    pub restore_unwritten : {T : Type 0} (recordings : Recordings) (r : Result T CliFault) → ReportsRestore recordings r a b o o' x y
        → IfErr r (IfUnwritten Lost)
    restore_unwritten recordings (Ok value) reported = tt
    restore_unwritten recordings (Err (faults.Write path)) (inl (unread, kept)) =
        absurd (unread_file recordings a b (paths.Hold 0) (faults.Write path) unread)
    restore_unwritten recordings (Err (faults.Write path)) (inr (h, read, (settled, breaks))) = both_lost path _ _ breaks
    restore_unwritten recordings (Err fault) reported = tt

    pub picture_unwritten : (r : Result Bool CliFault) → ReportsPicture r a b o o' x y → IfErr r (IfUnwritten Lost)
    picture_unwritten (Ok value) reported = tt
    picture_unwritten (Err (faults.Write path)) (inl (unread, kept)) = absurd (unread_file _ a b (paths.Hold 0) (faults.Write path) unread)
    picture_unwritten (Err (faults.Write path)) (inr (h, read, (shown, is, breaks))) = both_lost path _ _ breaks
    picture_unwritten (Err fault) reported = tt

    pub any_picture_unwritten : (r : Result Bool CliFault) → ReportsAnyPicture r a b o o' x y → IfErr r (IfUnwritten Lost)
    any_picture_unwritten (Ok value) reported = tt
    any_picture_unwritten (Err (faults.Write path)) (inl (unread, kept)) = absurd (unread_file _ a b (paths.Hold 0) (faults.Write path) unread)
    any_picture_unwritten (Err (faults.Write path)) (inr (h, read, (shown, is, breaks))) = both_lost path _ _ breaks
    any_picture_unwritten (Err fault) reported = tt

    pub decode_unwritten : {T : Type 0} (width height : ℕ) (c d : ReadLog) (r : Result T CliFault) → ReportsDecode r width height a b c d o o' x y
        → IfErr r (IfUnwritten Lost)
    decode_unwritten width height c d (Ok value) reported = tt
    decode_unwritten width height c d (Err (faults.Write path)) (inl (unread, as_before, kept)) = absurd unread
    decode_unwritten width height c d (Err (faults.Write path)) (inr (setup, set, inl (unread, kept))) = absurd unread
    decode_unwritten width height c d (Err (faults.Write path)) (inr (setup, set, inr (frame, is, breaks))) = both_lost path _ _ breaks
    decode_unwritten width height c d (Err fault) reported = tt

    pub take_unwritten : {C : Type 0} (recordings : Recordings) (remaining : C → Option (List ℕ)) (width height : ℕ) (old new : List C)
        (r : Result Bool CliFault) → ReportsTake recordings r remaining width height a b old new o o' x y → IfErr r (IfUnwritten Lost)
    take_unwritten recordings remaining width height old new (Ok value) reported = tt
    take_unwritten recordings remaining width height old new (Err (faults.Write path)) (inl (unread, as_before, kept)) = absurd unread
    take_unwritten recordings remaining width height old new (Err (faults.Write path)) (inr (inl (reel, read, unread, kept))) = absurd (unread.stopped.1)
    take_unwritten recordings remaining width height old new (Err (faults.Write path)) (inr (inr (held, text, in_order, taken, breaks))) =
        made_lost path held text breaks
    take_unwritten recordings remaining width height old new (Err fault) reported = tt

    pub join_unwritten : {T C : Type 0} (recordings : Recordings) (remaining : C → Option (List ℕ)) (old new : List C) (r : Result T CliFault)
        → ReportsJoin recordings r remaining a b old new o o' x y → IfErr r (IfUnwritten Lost)
    join_unwritten recordings remaining old new (Ok value) reported = tt
    join_unwritten recordings remaining old new (Err (faults.Write path)) (inl (inl (inl unread, same), kept)) =
        absurd (unread_file recordings a b (paths.Hold 0) (faults.Write path) unread)
    join_unwritten recordings remaining old new (Err (faults.Write path)) (inl (inl (inr (is, read), same), kept)) = absurd (cc)
    join_unwritten recordings remaining old new (Err (faults.Write path))
        (inl (inr (i, there, (whole, text, joined, (last, inl (inl unread))), later), kept)) =
        absurd (unread_file recordings _ last (paths.Hold (i + 1)) (faults.Write path) unread)
    join_unwritten recordings remaining old new (Err (faults.Write path))
        (inl (inr (i, there, (whole, text, joined, (last, inl (inr (is, read)))), later), kept)) = absurd (cc)
    join_unwritten recordings remaining old new (Err (faults.Write path))
        (inl (inr (i, there, (whole, text, joined, (last, inr (is, other))), later), kept)) = absurd (cc)
    join_unwritten recordings remaining old new (Err (faults.Write path)) (inr (whole, text, joined, breaks)) = made_lost path whole text breaks
    join_unwritten recordings remaining old new (Err fault) reported = tt

    pub mend_unwritten : (old new : List ReadLog) (r : Result Bool CliFault) → ReportsMend r a b old new o o' x y → IfErr r (IfUnwritten Lost)
    mend_unwritten old new (Ok value) reported = tt
    mend_unwritten old new (Err (faults.Write path)) (inl (listed, as_before, kept)) = absurd listed
    mend_unwritten old new (Err (faults.Write path))
        (inr (stops.Out, is, (stretches, listed, (front, stretch, files, mended, one, read, mends, breaks, printed)))) =
        let same : path ≡ paths.Out = cc in
        subst Lost (sym same) breaks.tries'
    mend_unwritten old new (Err (faults.Write path))
        (inr (stops.Output, is, (stretches, listed, (front, files, mended, read, mends, wrote, breaks)))) =
        let same : path ≡ paths.StandardOutput = cc in
        subst Lost (sym same) breaks.tries'
    mend_unwritten old new (Err (faults.Write path)) (inr (stops.Read copy, is, mends)) = absurd (cc)
    mend_unwritten old new (Err (faults.Write path)) (inr (stops.Memory, is, mends)) = absurd (cc)
    mend_unwritten old new (Err fault) reported = tt

    pub samples_unwritten : (width height : ℕ) (old new : List ReadLog) (r : Result Bool CliFault) → ReportsSamples r width height a b old new o o' x y
        → IfErr r (IfUnwritten Lost)
    samples_unwritten width height old new (Ok value) reported = tt
    samples_unwritten width height old new (Err (faults.Write path)) (inl (unread, as_before, kept)) = absurd unread
    samples_unwritten width height old new (Err (faults.Write path))
        (inr (plays.Out, is, (recording, takes, (payloads, frames, frame, end, read, played, breaks, printed)))) =
        let same : path ≡ paths.Out = cc in
        subst Lost (sym same) breaks.tries'
    samples_unwritten width height old new (Err (faults.Write path))
        (inr (plays.Output, is, (recording, takes, (payloads, frames, end, read, played, wrote, breaks)))) =
        let same : path ≡ paths.StandardOutput = cc in
        subst Lost (sym same) breaks.tries'
    samples_unwritten width height old new (Err (faults.Write path)) (inr (plays.Read place, is, played)) = absurd (cc)
    samples_unwritten width height old new (Err (faults.Write path)) (inr (plays.Samples number fault, is, played)) = absurd (cc)
    samples_unwritten width height old new (Err (faults.Write path)) (inr (plays.Memory, is, played)) = absurd (cc)
    samples_unwritten width height old new (Err fault) reported = tt

  pub splice_unwritten : {C : Type 0} (remaining : C → Option (List ℕ)) (old new : List C) (r : Result Bool CliFault)
      → ReportsSplice remaining r old new o o' x y → IfErr r (IfUnwritten Lost)
  splice_unwritten remaining old new (Ok value) reported = tt
  splice_unwritten remaining old new (Err (faults.Write path)) (inl (unread, kept)) = absurd (unread.stopped.1)
  splice_unwritten remaining old new (Err (faults.Write path)) (inr (copies, taken, (spliced, is, breaks))) = both_lost path _ _ breaks
  splice_unwritten remaining old new (Err fault) reported = tt

-- ---- two streams that are joined

module _ (recordings : Recordings) (a b c d : ReadLog) (o o' : WriteLog) where
  abbrev OutLost : CommandPath → Type 0
  OutLost = OfOutputs (GivesUp o.tries o'.tries) ⊥

  pub merge_unwritten : {T : Type 0} (r : Result T CliFault)
      → ReportsMerge recordings r (record { left = a; right = c; sink = o }) (record { left = b; right = d; sink = o' }) → IfErr r (IfUnwritten OutLost)
  merge_unwritten (Ok value) reported = tt
  merge_unwritten (Err (faults.Write path)) (files.Write, is, breaks) =
      let same : path ≡ paths.Out = cc in
      subst OutLost (sym same) breaks.went.sink'
  merge_unwritten (Err (faults.Write path)) (files.Read, is, breaks) = absurd (cc)
  merge_unwritten (Err (faults.Write path)) (files.Memory, is, breaks) = absurd (cc)
  merge_unwritten (Err (faults.Write path)) (fault, is, breaks) = absurd (cc)
  merge_unwritten (Err fault) reported = tt
