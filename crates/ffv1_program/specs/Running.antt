-- What each command promises of the files that its words name: what it does, why it stops, and what it leaves as it was.
use Rattle.std.specs.Prelude.{ℕ, ◌≡◌, ◌⊎◌, List, [], ◌∷◌, map, Bool, true, Option, IfSome, Result, IfOk, IfErr, IsErrOf}
use Rattle.std.specs.Borrow.{Bor}
use Rattle.std.specs.Io.KnownBytes.{Appends}
use Rattle.ffv1_devices.specs.Logs.{ReadLog, WriteLog, GivesUp}
use Rattle.ffv1_holding.specs.declared.recordings.Recordings.{Recordings}
use Rattle.ffv1_holding.specs.declared.recordings.Recordings.TheVariants.{Profile, Any}
use Rattle.ffv1_help.specs.Texts.{help_text, version_text}
use Rattle.ffv1_help.specs.Writing.{WritesFront}
use Rattle.ffv1_commands.specs.Devices.{UnlessWriting, IfOfRecord, IsWrittenIfTouched, IsUnread}
use Rattle.ffv1_commands.specs.Fault.{NamesPath}
use Rattle.ffv1_commands.specs.Lists.{IfOfList}
use Rattle.ffv1_commands.specs.ChainText.{PrintsChain, ChainStops}
use Rattle.ffv1_commands.specs.ScanText.{ScansFile, ScanStops}
use Rattle.ffv1_commands.specs.CheckText.{IsUnchecked, ChecksFile, CheckStops}
use Rattle.ffv1_commands.specs.ShowText.{PrintsSetup, ShowStops}
use Rattle.ffv1_commands.specs.SetupText.{PrintsRecording, SetupStops}
use Rattle.ffv1_commands.specs.TakeText.{TakesCopies, TakeStops}
use Rattle.ffv1_commands.specs.JoinText.{JoinsFiles, JoinStops}
use Rattle.ffv1_commands.specs.MergeText.{MergesFiles}
use Rattle.ffv1_commands.specs.ReportedText.{ReportsFile, ReportStops}
use Rattle.ffv1_commands.specs.RestoreText.{RestoresFile, RestoreStops}
use Rattle.ffv1_commands.specs.PictureText.{ShowsFile, PictureStops}
use Rattle.ffv1_commands.specs.AnyPictureText.{ShowsAnyFile, AnyPictureStops}
use Rattle.ffv1_commands.specs.SpliceText.{SplicesCopies}
use Rattle.ffv1_commands.specs.MendText.{MendsFiles}
use Rattle.ffv1_commands.specs.DecodeText.{DecodesFile, DecodeStops}
use Rattle.ffv1_commands.specs.SamplesText.{PlaysFiles, FirstIsFrame}
use Rattle.ffv1_commands.specs.declared.fault.CliFault.{CliFault}
use Rattle.ffv1_commands.specs.declared.fault.CliFault.TheVariants as faults
use Rattle.ffv1_commands.specs.declared.path.CommandPath.{CommandPath}
use Rattle.ffv1_commands.specs.declared.path.CommandPath.TheVariants as paths
use Rattle.ffv1_words.specs.WordPaths.{IsPathOf}
use Rattle.ffv1_words.specs.declared.words.Words.{Words}
use Rattle.ffv1_words.specs.declared.words.Words.TheVariants.{Chain, Scan, Check, Show, Setup, Take, Join, Merge, Report, Restore, Picture, Splice, Mend}
use Rattle.ffv1_words.specs.declared.words.Words.TheVariants.{Decode, Samples, Help, Version}
use Rattle.ffv1_program.specs.FilesAt.{FilesAt}
use Rattle.ffv1_program.specs.Merging.{IsEither, IfNotBegun, StopsMerging}
use Rattle.ffv1_program.specs.Splicing.{IsInput, StopsSplicing, StopsMendingFiles, StopsPlayingFiles}
use Rattle.ffv1_commands.specs.Holdings.{IsUnheld}
use Rattle.ffv1_program.specs.Unread.{IfUnread, SomeSource, IsUnscanned, IsUndecoded, IsUntaken, IsUnjoined, IsUnmerged, IsSpliceUnread, IsUnmended, IsUnplayed}
use Rattle.ffv1_program.specs.Unwritten.{IfUnwritten, OfOutputs}

-- the word of the file that is made, which is empty where none is
abbrev pub out_word : Words → List ℕ
out_word (Take recording out copies) = out.now
out_word (Join out first others) = out.now
out_word (Merge out left right) = out.now
out_word (Restore file out) = out.now
out_word (Picture file out) = out.now
out_word (Splice out copies) = out.now
out_word (Mend list out copies) = out.now
out_word (Decode recording frame out) = out.now
out_word (Samples recording out frames) = out.now
out_word (Chain frame) = []
out_word (Scan ranges file) = []
out_word (Check file) = []
out_word (Show recording) = []
out_word (Setup recording) = []
out_word (Report file) = []
out_word Help = []
out_word Version = []

-- the bytes of the files of words
abbrev pub bytes_of_all : (List ℕ → Option (List ℕ)) → List (Bor (List ℕ)) → List (Option (List ℕ))
bytes_of_all bytes_at words = map (λ word. bytes_at word.now) words

-- words themselves
abbrev pub words_of : List (Bor (List ℕ)) → List (List ℕ)
words_of words = map (λ word. word.now) words

-- a text was not printed whole
abbrev pub StopsPrinting : (text : List ℕ) (printed_before printed_after : Option (List ℕ)) → CliFault → Type 0
StopsPrinting text printed_before printed_after fault =
    (fault ≡ faults.Write paths.StandardOutput) × WritesFront printed_before printed_after text

-- What `picture` did, and why it stopped, of holdings of these recordings.
abbrev pub ShowsFileOf : Recordings → (input out_before out_after printed_before printed_after : Option (List ℕ)) → Bool → Type 0
ShowsFileOf Profile input out_before out_after printed_before printed_after = ShowsFile input out_before out_after printed_before printed_after
ShowsFileOf Any input out_before out_after printed_before printed_after = ShowsAnyFile input out_before out_after printed_before printed_after

abbrev pub PictureStopsOf : Recordings → (input out_before out_after printed_before printed_after : Option (List ℕ)) → CliFault → Type 0
PictureStopsOf Profile input out_before out_after printed_before printed_after = PictureStops input out_before out_after printed_before printed_after
PictureStopsOf Any input out_before out_after printed_before printed_after = AnyPictureStops input out_before out_after printed_before printed_after

-- The recordings whose holdings are taken, and the files that are read, by their words: their bytes, if they are known; what holds of one that was not opened; and of one of which a
-- source went so, a source that was opened before that, or a source with a buffer.
pub record FilesRead : Type 1 where
  pub recordings : Recordings
  pub bytes_at : List ℕ → Option (List ℕ)
  pub IsUnopened : List ℕ → Type 0
  pub OpenedWent : (ReadLog → ReadLog → Type 0) → List ℕ → Type 0
  pub SourceWent : (ReadLog → ReadLog → Type 0) → List ℕ → Type 0
  pub BufferedWent : (ReadLog → ReadLog → Type 0) → List ℕ → Type 0

-- those of these recordings and the files of a file system, by the logs of its sources
abbrev pub files_of : {Device Buffered : Type 0} → Recordings → FilesAt Device Buffered → (log : Device → ReadLog) → (buffered_log : Buffered → ReadLog)
    → FilesRead
files_of recordings files log buffered_log =
    record {
      recordings = recordings;
      bytes_at = files.bytes_at;
      IsUnopened = files.cannot_open_at;
      OpenedWent = SomeSource files.is_opened_at log;
      SourceWent = SomeSource files.is_device_at log;
      BufferedWent = SomeSource files.is_buffered_at buffered_log;
    }

-- What a command writes to: its bytes before and after, if they are known; that it is as it was; that it is made, even of no bytes; that
-- making it failed; and that it was given up.
pub record Written : Type 1 where
  pub before : Option (List ℕ)
  pub after : Option (List ℕ)
  pub IsKept : Type 0
  pub IsMade : Type 0
  pub CannotBeMade : Type 0
  pub IsGivenUp : Type 0

-- what sink this is, before and after: its log says what it holds, and whether it was given up
abbrev pub made_by : {Output : Type 0} → (log : Output → WriteLog) → (is_made cannot_make : Output → Type 0) → (old new : Output) → Written
made_by log is_made cannot_make old new =
    record {
      before = (log old).contents;
      after = (log new).contents;
      IsKept = new ≡ old;
      IsMade = is_made new;
      CannotBeMade = cannot_make new;
      IsGivenUp = GivesUp (log old).tries (log new).tries;
    }

-- what is printed, which is always there
abbrev pub printed_by : {Output : Type 0} → (log : Output → WriteLog) → (old new : Output) → Written
printed_by log old new = made_by log (λ _. Unit {0}) (λ _. ⊥) old new

-- What a command promises: what it did and returns; why it stopped; what a fault left as it was; what a fault rests on that says that a file
-- was not read, and one that says that a file was not written; what it returns where it refuses its words; and which of the file that is made
-- and of what is printed it has no part in.
pub record Promise : Type 1 where
  pub Does : Bool → Type 0
  pub Stops : CliFault → Type 0
  pub Keeps : CliFault → Type 0
  pub Unread : CliFault → Type 0
  pub Unwritten : CliFault → Type 0
  pub Refuses : Result Bool CliFault → Type 0
  pub Leaves : (Made Printed : Type 0) → Type 0

-- a command that makes no file, and one that makes one: neither refuses its words
abbrev pub prints : (printed : Written) → (Does : Bool → Type 0) → (Stops Keeps Unread : CliFault → Type 0) → Promise
prints printed Does Stops Keeps Unread = record {
  Does = Does;
  Stops = Stops;
  Keeps = Keeps;
  Unread = Unread;
  Unwritten = IfUnwritten (OfOutputs ⊥ printed.IsGivenUp);
  Refuses = λ _. Unit {0};
  Leaves = λ Made Printed. Made;
}

abbrev pub makes : (made printed : Written) → (Does : Bool → Type 0) → (Stops Unread : CliFault → Type 0) → Promise
makes made printed Does Stops Unread = record {
  Does = Does;
  Stops = Stops;
  Keeps = λ fault. UnlessWriting fault (made.IsKept × printed.IsKept);
  Unread = Unread;
  Unwritten = IfUnwritten (OfOutputs (made.CannotBeMade ⊎ made.IsGivenUp) printed.IsGivenUp);
  Refuses = λ _. Unit {0};
  Leaves = λ _ _. Unit {0};
}

-- a command that prints a text
abbrev pub prints_text : (text : List ℕ) → (printed : Written) → Promise
prints_text text printed =
    prints printed (λ returned. (returned ≡ true) × Appends printed.before printed.after text) (StopsPrinting text printed.before printed.after)
    (λ fault. UnlessWriting fault printed.IsKept) (λ _. Unit {0})

-- what holds of what was done by a command that returns nothing more
abbrev pub if_done : Type 0 → Bool → Type 0
if_done P returned = (returned ≡ true) × P

-- The promise of the command of these words.
abbrev pub promise_of : FilesRead → (made printed : Written) → Words → Promise
promise_of files made printed (Chain frame) =
    prints printed (if_done (IfSome (files.bytes_at frame.now) (λ payload. PrintsChain payload printed.before printed.after)))
    (ChainStops (files.bytes_at frame.now) printed.before printed.after)
    (λ fault. UnlessWriting fault printed.IsKept) (IfUnread (λ _. files.SourceWent IsUnread frame.now))
promise_of files made printed (Scan ranges file) =
    prints printed (ScansFile (files.bytes_at ranges.now) (files.bytes_at file.now) printed.before printed.after)
    (ScanStops (files.bytes_at ranges.now) (files.bytes_at file.now) printed.before printed.after)
    (λ fault. IfOfList paths.Ranges fault printed.IsKept) (IfUnread (IsUnscanned files.SourceWent ranges.now file.now))
promise_of files made printed (Check file) =
    prints printed (ChecksFile (files.bytes_at file.now) printed.before printed.after)
    (CheckStops (files.bytes_at file.now) printed.before printed.after)
    (λ fault. UnlessWriting fault printed.IsKept) (IfUnread (λ _. files.SourceWent IsUnchecked file.now))
promise_of files made printed (Show recording) =
    prints printed (if_done (IfSome (files.bytes_at recording.record.now) (λ config. PrintsSetup config recording.width recording.height printed.before printed.after)))
    (ShowStops recording.width recording.height (files.bytes_at recording.record.now) printed.before printed.after)
    (λ fault. UnlessWriting fault printed.IsKept) (IfUnread (λ _. files.SourceWent IsUnread recording.record.now))
promise_of files made printed (Setup recording) =
    prints printed (if_done (IfSome (files.bytes_at recording.record.now) (λ config. PrintsRecording config recording.width recording.height printed.before printed.after)))
    (SetupStops recording.width recording.height (files.bytes_at recording.record.now) printed.before printed.after)
    (λ fault. UnlessWriting fault printed.IsKept) (IfUnread (λ _. files.SourceWent IsUnread recording.record.now))
promise_of files made printed (Take recording out copies) =
    makes made printed (TakesCopies files.recordings (files.bytes_at recording.record.now) recording.width recording.height (bytes_of_all files.bytes_at copies.items) made.before made.after printed.before printed.after)
    (TakeStops files.recordings (files.bytes_at recording.record.now) recording.width recording.height (bytes_of_all files.bytes_at copies.items) made.before made.after printed.before printed.after)
    (IfUnread (IsUntaken files.SourceWent recording.record.now (words_of copies.items)))
promise_of files made printed (Join out first others) =
    makes made printed (if_done (JoinsFiles files.recordings (files.bytes_at first.now ∷ bytes_of_all files.bytes_at others.items) made.before made.after printed.before printed.after))
    (JoinStops files.recordings (files.bytes_at first.now ∷ bytes_of_all files.bytes_at others.items) made.before made.after printed.before printed.after)
    (IfUnread (IsUnjoined files.recordings files.BufferedWent first.now (words_of others.items)))
promise_of files made printed (Merge out left right) =
    record {
      Does = λ returned. (returned ≡ true) × MergesFiles files.recordings (files.bytes_at left.now) (files.bytes_at right.now) made.before made.after;
      Stops = StopsMerging files.recordings (IsEither out.now left.now right.now) files.IsUnopened left.now right.now (files.bytes_at left.now) (files.bytes_at right.now)
          made.before made.after;
      Keeps = λ fault. IfNotBegun fault made.IsKept × IsWrittenIfTouched paths.Out made.IsKept made.before made.after fault;
      Unread = IfUnread (IsUnmerged files.IsUnopened files.OpenedWent left.now right.now);
      Unwritten = IfUnwritten (OfOutputs (IsEither out.now left.now right.now ⊎ made.IsGivenUp) ⊥);
      Refuses = λ result. IsEither out.now left.now right.now → IsErrOf result (faults.Write paths.Out) × made.IsKept;
      Leaves = λ Made Printed. Printed;
    }
promise_of files made printed (Report file) =
    prints printed (if_done (ReportsFile files.recordings (files.bytes_at file.now) printed.before printed.after))
    (ReportStops files.recordings (files.bytes_at file.now) printed.before printed.after)
    (λ fault. UnlessWriting fault printed.IsKept) (IfUnread (λ _. files.BufferedWent (IsUnheld files.recordings) file.now))
promise_of files made printed (Restore file out) =
    makes made printed (if_done (RestoresFile files.recordings (files.bytes_at file.now) made.before made.after printed.before printed.after))
    (RestoreStops files.recordings (files.bytes_at file.now) made.before made.after printed.before printed.after)
    (IfUnread (λ _. files.BufferedWent (IsUnheld files.recordings) file.now))
promise_of files made printed (Picture file out) =
    makes made printed (ShowsFileOf files.recordings (files.bytes_at file.now) made.before made.after printed.before printed.after)
    (PictureStopsOf files.recordings (files.bytes_at file.now) made.before made.after printed.before printed.after)
    (IfUnread (λ _. files.BufferedWent (IsUnheld files.recordings) file.now))
promise_of files made printed (Splice out copies) =
    makes made printed (λ returned. made.IsMade × SplicesCopies (bytes_of_all files.bytes_at copies.items) made.before made.after printed.before printed.after returned)
    (StopsSplicing made.CannotBeMade (bytes_of_all files.bytes_at copies.items) made.before made.after printed.before printed.after)
    (IfUnread (IsSpliceUnread files.SourceWent (words_of copies.items)))
promise_of files made printed (Mend list out copies) =
    record {
      Does = λ returned. made.IsMade × MendsFiles (files.bytes_at list.now) (bytes_of_all files.bytes_at copies.items)
          made.before made.after printed.before printed.after returned;
      Stops = StopsMendingFiles (IsInput out.now list.now copies.items) made.CannotBeMade (files.bytes_at list.now) (bytes_of_all files.bytes_at copies.items)
          made.before made.after printed.before printed.after;
      Keeps = λ fault. IfOfList paths.List fault (made.IsKept × printed.IsKept)
          × IsWrittenIfTouched paths.Out made.IsKept made.before made.after fault;
      Unread = IfUnread (IsUnmended files.SourceWent list.now (words_of copies.items));
      Unwritten = IfUnwritten (OfOutputs (IsInput out.now list.now copies.items ⊎ made.CannotBeMade ⊎ made.IsGivenUp) printed.IsGivenUp);
      Refuses = λ result. IsInput out.now list.now copies.items → IsErrOf result (faults.Write paths.Out) × made.IsKept × printed.IsKept;
      Leaves = λ _ _. Unit {0};
    }
promise_of files made printed (Decode recording frame out) =
    makes made printed (if_done (DecodesFile (files.bytes_at recording.record.now) recording.width recording.height (files.bytes_at frame.now) made.before made.after printed.before printed.after))
    (DecodeStops (files.bytes_at recording.record.now) recording.width recording.height (files.bytes_at frame.now) made.before made.after printed.before printed.after)
    (IfUnread (IsUndecoded files.SourceWent recording.record.now frame.now))
promise_of files made printed (Samples recording out frames) =
    record {
      Does = λ returned. made.IsMade × PlaysFiles (files.bytes_at recording.record.now) recording.width recording.height
          (bytes_of_all files.bytes_at frames.items) made.before made.after printed.before printed.after returned;
      Stops = StopsPlayingFiles (IsInput out.now recording.record.now frames.items) made.CannotBeMade (files.bytes_at recording.record.now)
          recording.width recording.height (bytes_of_all files.bytes_at frames.items) made.before made.after printed.before printed.after;
      Keeps = λ fault. IfOfRecord fault (made.IsKept × printed.IsKept)
          × ((fault ≡ faults.Write paths.Out) ⊎ (made.IsKept × printed.IsKept) ⊎ FirstIsFrame (files.bytes_at recording.record.now)
          recording.width recording.height (bytes_of_all files.bytes_at frames.items));
      Unread = IfUnread (IsUnplayed files.SourceWent recording.record.now (words_of frames.items));
      Unwritten = IfUnwritten (OfOutputs (IsInput out.now recording.record.now frames.items ⊎ made.CannotBeMade ⊎ made.IsGivenUp) printed.IsGivenUp);
      Refuses = λ result. IsInput out.now recording.record.now frames.items → IsErrOf result (faults.Write paths.Out) × made.IsKept × printed.IsKept;
      Leaves = λ _ _. Unit {0};
    }
promise_of files made printed Help = prints_text help_text printed
promise_of files made printed Version = prints_text version_text printed

-- What was returned is as promised, and a fault names no paths but these.
pub record IsAsPromised (promise : Promise) (IsPath : CommandPath → Type 0) (result : Result Bool CliFault) : Type 0 where
  pub does : IfOk result promise.Does
  pub stops : IfErr result promise.Stops
  pub keeps : IfErr result promise.Keeps
  pub unread : IfErr result promise.Unread
  pub unwritten : IfErr result promise.Unwritten
  pub refuses : promise.Refuses result
  pub names : IfErr result (NamesPath IsPath)

-- The command of these words keeps its promise.
abbrev pub KeepsPromise : FilesRead → (made printed : Written) → Words → Result Bool CliFault → Type 0
KeepsPromise files made printed words result = IsAsPromised (promise_of files made printed words) (IsPathOf words) result

-- The command of these words runs: it keeps its promise, and what it has no part in is as it was.
pub record RunsCommand (files : FilesRead) (made printed : Written) (words : Words) (result : Result Bool CliFault) : Type 0 where
  pub promise : KeepsPromise files made printed words result
  pub untouched : (promise_of files made printed words).Leaves made.IsKept printed.IsKept
