-- What joining files says of them and of the outputs.
use Rattle.std.proofs.Common.{◌≡◌, ◌≢◌, ℕ, suc, ◌+◌, ◌<◌, List, [], ◌∷◌, ◌++◌, length, map, get_or, Option, None, IfSome, Result, Ok, Err, OnOk, IfErr, refl, sym, ap, ◌∙◌, subst, inl, inr, arith}
use Rattle.std.proofs.KnownBytes.{Consumes-nil}
use Rattle.std.proofs.lemmas.List.{length-map}
use Rattle.ffv1_holding.specs.declared.fault.HoldFault.{HoldFault}
use Rattle.ffv1_holding.specs.declared.fault.HoldFault.TheVariants as holds
use Rattle.ffv1_holding.specs.declared.recordings.Recordings.{Recordings}
use Rattle.ffv1_devices.specs.Logs.{ReadLog, WriteLog}
use Rattle.ffv1_holding.specs.Sets as set
use Rattle.ffv1_holding.specs.Contents.{Contents, IsSameReel}
use Rattle.ffv1_hold.specs.FileFaults.{IsFaultOf}
use Rattle.ffv1_hold.specs.declared.file_fault.HoldFileFault.TheVariants as files
use Rattle.ffv1_hold.proofs.Magics.{begun_none}
use Rattle.ffv1_commands.specs.Fault.{NamesPath, of_hold}
use Rattle.ffv1_commands.specs.Paths.{IsJoinPath}
use Rattle.ffv1_commands.specs.InTurn.{AreKeptFrom, log_of, ReadsAlone}
use Rattle.ffv1_commands.specs.Holdings.{IsTakenFile, HoldingStops, ReadsTaken}
use Rattle.ffv1_commands.specs.Inner.Holdings.{MadeStops, WritesMade}
use Rattle.ffv1_commands.specs.JoinText.{file_line, JoinsEach, JoinsFiles, IsFaultOfFiles, IsFaultOfInput, StopsAtPlace, LaterFilesKept, JoinStops, IsReadAsFile, AreReadAsFiles, FileBreaks, JoinBreaks, JoinsAll, StopsAtFile, ReportsJoin}
use Rattle.ffv1_commands.specs.Inner.JoinText.{JoinsOne}
use Rattle.ffv1_commands.specs.declared.fault.CliFault.{CliFault}
use Rattle.ffv1_commands.specs.declared.fault.CliFault.TheVariants as faults
use Rattle.ffv1_commands.specs.declared.path.CommandPath.{CommandPath}
use Rattle.ffv1_commands.specs.declared.path.CommandPath.TheVariants as paths
use Rattle.ffv1_commands.proofs.InputFaults.{IsUnwritten, IsHoldingFault-says}
use Rattle.ffv1_commands.proofs.HeldFiles.{taken_file, unread_file}
use Rattle.ffv1_commands.proofs.JoinSteps.{joins_first, joins_more, joins_reel}
use Rattle.ffv1_commands.proofs.MadeFiles.{made_says, made_bytes}

-- ---- one file

-- a file that was read and joined is joined as its input's bytes say
abbrev file_joined : (recordings : Recordings) (a b : ReadLog) (number : ℕ) (old new : Contents) (lines lines' : List ℕ) → JoinsOne (ReadsTaken recordings a b) number old new lines lines'
    → JoinsOne (IsTakenFile recordings a.remaining) number old new lines lines'
file_joined recordings a b number old new lines lines' one = record {
  other = one.other;
  file = taken_file _ a b one.other one.file;
  same = one.same;
  held = one.held;
  line = one.line;
}

-- where the buffer of a file is refused nothing is read
pub unbuffered : (recordings : Recordings) (path : CommandPath) (input : Option (List ℕ)) → ReadsAlone (HoldingStops recordings path faults.Memory) input
unbuffered recordings path input = (
  log_of input,
  (
    files.Memory,
    refl,
    record {
      fault = record { seen = []; is = inl (inl (omega arith, begun_none recordings)); taken = Consumes-nil input; within = omega arith };
      tries' = record { counted = omega arith; unbroken = refl; last = inr refl };
      few = omega arith;
    },
  ),
)

-- a file that was read is refused for its reel, or memory ran out
pub join_refused : (recordings : Recordings) (before : ℕ) (a b : ReadLog) (whole other : Contents) → ReadsTaken recordings a b other → (r : Result ℕ HoldFault) (fault : HoldFault)
    → r ≡ Err fault → (r ≡ Err holds.OtherReel → ¬ IsSameReel whole other) → r ≢ Err holds.PayloadTooLong
    → JoinBreaks recordings (paths.Hold before) whole (of_hold fault) a b
join_refused recordings before a b whole other read r holds.OtherReel was differs short = inr (refl, (other, read, differs was))
join_refused recordings before a b whole other read r holds.PayloadTooLong was differs short = absurd (short was)
join_refused recordings before a b whole other read r holds.Memory was differs short = inl (inr (refl, (other, read)))

-- ---- all files

pub all_first : (recordings : Recordings) (a b : ReadLog) (h : Contents) (text : List ℕ) → text ≡ file_line 1 (set.size h.slices) → ReadsTaken recordings a b h
    → JoinsAll recordings [] a b h text
all_first recordings a b h text reported read = record { each = joins_first _ a.remaining h text reported (taken_file _ a b h read); first = read; others = tt }

AreReadAsFiles-push : (recordings : Recordings) (inputs : List (Option (List ℕ))) (hs : List Contents) (input : Option (List ℕ)) (h : Contents) → AreReadAsFiles recordings inputs hs → IsReadAsFile recordings input h
    → AreReadAsFiles recordings (inputs ++ input ∷ []) (hs ++ h ∷ [])
AreReadAsFiles-push recordings [] [] input h each one = (one, tt)
AreReadAsFiles-push recordings [] (g ∷ gs) input h each one = absurd each
AreReadAsFiles-push recordings (i ∷ is) [] input h each one = absurd each
AreReadAsFiles-push recordings (i ∷ is) (g ∷ gs) input h each one = (each.0, AreReadAsFiles-push _ is gs input h each.1 one)

pub all_more : (recordings : Recordings) (inputs : List (Option (List ℕ))) (a b : ReadLog) (old new : Contents) (before after : List ℕ) (input : Option (List ℕ)) (i : ℕ)
    (log : ReadLog) → JoinsAll recordings inputs a b old before → i ≡ length inputs → JoinsOne (ReadsTaken recordings (log_of input) log) (i + 1 + 1) old new before after
    → JoinsAll recordings (inputs ++ input ∷ []) a b new after
all_more recordings inputs a b old new before after input i log all n one = record {
  each = joins_more _ (a.remaining ∷ inputs) old new before after input (i + 1) all.each (omega (arith, n))
      (file_joined _ (log_of input) log (i + 1 + 1) old new before after one);
  first = all.first;
  others = AreReadAsFiles-push _ inputs all.each.others input one.other all.others (log, one.file);
}

-- the same inputs, written otherwise
pub all_as : (recordings : Recordings) (inputs others : List (Option (List ℕ))) (a b : ReadLog) (whole : Contents) (text : List ℕ) → inputs ≡ others
    → JoinsAll recordings inputs a b whole text → JoinsAll recordings others a b whole text
all_as recordings inputs others a b whole text same all = subst (λ (i : List (Option (List ℕ))). JoinsAll recordings i a b whole text) same all

-- ---- the places of faults

-- a later file's fault, where those before it were joined
module _ (recordings : Recordings) (first input : Option (List ℕ)) (rest : List (Option (List ℕ))) (i : ℕ) (at : get_or rest i None ≡ input)
    (whole of_first : Contents) (file : IsTakenFile recordings first of_first) (same : whole.reel ≡ of_first.reel) where
  other_refused : (fault : CliFault) → ReadsAlone (JoinBreaks recordings (paths.Hold (i + 1)) whole fault) input → IsFaultOfInput recordings (first ∷ rest) (suc i) fault
  other_refused fault (log, inl (inl stops)) =
      let next : i + 1 ≡ suc i = omega arith in
      IsHoldingFault-says _ (IsFaultOfInput recordings (first ∷ rest) (suc i)) (paths.Hold (i + 1)) input fault (ap paths.Hold next) tt
      (λ file is. subst (λ (x : Option (List ℕ)). IfSome x (λ bytes. IsFaultOf recordings bytes file)) (sym at) is)
      (unread_file _ (log_of input) log (paths.Hold (i + 1)) fault stops)
  other_refused fault (log, inl (inr (is, read))) = subst (IsFaultOfInput recordings (first ∷ rest) (suc i)) (sym is) tt
  other_refused fault (log, inr (is, (other, read, differs))) = subst (IsFaultOfInput recordings (first ∷ rest) (suc i)) (sym is) (
    refl,
    (
      of_first,
      other,
      file,
      subst (λ (x : Option (List ℕ)). IsTakenFile recordings x other) (sym at) (taken_file _ (log_of input) log other read),
      λ e. differs (same ∙ e),
    ),
  )

module _ {R : Type 0} (recordings : Recordings) (reports : R → Option (List ℕ)) (a b : ReadLog) (old new : List R) where
  first_refused : (fault : CliFault) → FileBreaks recordings (paths.Hold 0) fault a b → IsFaultOfInput recordings (a.remaining ∷ map reports old) 0 fault
  first_refused fault (inl stops) =
      IsHoldingFault-says _ (IsFaultOfInput recordings (a.remaining ∷ map reports old) 0) (paths.Hold 0) a.remaining fault refl tt (λ file is. is)
      (unread_file _ a b (paths.Hold 0) fault stops)
  first_refused fault (inr (is, read)) = subst (IsFaultOfInput recordings (a.remaining ∷ map reports old) 0) (sym is) tt

  at_place : (fault : CliFault) → StopsAtFile recordings reports a b old new fault → StopsAtPlace recordings (a.remaining ∷ map reports old) old new fault
  at_place fault (inl (breaks, same)) = (0, omega arith, inl refl, first_refused fault breaks, same)
  at_place fault (inr (i, lt, (whole, text, all, stops), later)) =
      let few : suc i < length (a.remaining ∷ map reports old) = omega (arith, length-map old reports) in
      let next : i + 1 ≡ suc i = omega arith in (
        suc i,
        few,
        inr (whole, text, all.each),
        other_refused _ a.remaining (get_or (map reports old) i None) (map reports old) i refl whole all.each.first all.each.files.0
            (joins_reel _ _ _ _ all.each) fault stops,
        subst (λ n. AreKeptFrom n old new) next later,
      )

-- a fault at a place is one of the files
of_files : {R : Type 0} (recordings : Recordings) (inputs : List (Option (List ℕ))) (old new : List R) (fault : CliFault) → StopsAtPlace recordings inputs old new fault
    → IsFaultOfFiles recordings inputs fault
of_files recordings inputs old new (faults.Read path) (i, lt, before, stops, later) = (i, lt, before, stops)
of_files recordings inputs old new (faults.Hold fault) (i, lt, before, (is, stops), later) = (is, (i, lt, before, stops))
of_files recordings inputs old new (faults.HoldFile fault) (i, lt, before, stops, later) = (i, lt, before, stops)
of_files recordings inputs old new faults.Memory stops = tt
of_files recordings inputs old new fault (i, lt, before, stops, later) = absurd stops

-- and leaves those after it
later_kept : {R : Type 0} (recordings : Recordings) (inputs : List (Option (List ℕ))) (old new : List R) (fault : CliFault) → StopsAtPlace recordings inputs old new fault
    → LaterFilesKept recordings inputs old new fault
later_kept recordings inputs old new (faults.Read path) (i, lt, before, same, later) =
    subst (λ (p : CommandPath). LaterFilesKept recordings inputs old new (faults.Read p)) (sym same) later
later_kept recordings inputs old new (faults.Hold fault) stops = stops
later_kept recordings inputs old new (faults.HoldFile fault) stops = inl stops
later_kept recordings inputs old new fault stops = tt

-- ---- over the logs of the devices

IsFaultOfFiles-unwritten : (recordings : Recordings) (inputs : List (Option (List ℕ))) (fault : CliFault) → IsFaultOfFiles recordings inputs fault → IsUnwritten fault
IsFaultOfFiles-unwritten recordings inputs (faults.Write path) (i, lt, before, stops) = absurd stops
IsFaultOfFiles-unwritten recordings inputs fault stops = tt

-- where a file was not joined nothing was written
pub files-unwritten : {R : Type 0} (recordings : Recordings) (reports : R → Option (List ℕ)) (a b : ReadLog) (old new : List R) (fault : CliFault) → StopsAtFile recordings reports a b old new fault
    → IsUnwritten fault
files-unwritten recordings reports a b old new fault stops =
    IsFaultOfFiles-unwritten _ (a.remaining ∷ map reports old) fault (of_files _ _ old new fault (at_place _ reports a b old new fault stops))

-- the file and the lines were written once all was joined, or were not
pub made_joined : {T R : Type 0} (recordings : Recordings) (reports : R → Option (List ℕ)) (a b : ReadLog) (old new : List R) (out out' output output' : WriteLog)
    (whole : Contents) (text : List ℕ) → JoinsAll recordings (map reports old) a b whole text → (r : Result T CliFault)
    → WritesMade r whole text out out' output output' → ReportsJoin recordings r reports a b old new out out' output output'
made_joined recordings reports a b old new out out' output output' whole text all (Ok x) made = (whole, text, all, made)
made_joined recordings reports a b old new out out' output output' whole text all (Err fault) breaks = inr (whole, text, all, breaks)

-- ---- the same of bytes

-- it names one of the paths
files_name : (recordings : Recordings) (inputs : List (Option (List ℕ))) (n : ℕ) → length inputs ≡ n + 1 → (fault : CliFault) → IsFaultOfFiles recordings inputs fault
    → NamesPath (IsJoinPath (n + 1)) fault
files_name recordings inputs n is (faults.Read path) (i, lt, before, same) = subst (IsJoinPath (n + 1)) (sym same) (omega (arith, lt, is))
files_name recordings inputs n is (faults.Hold fault) stops = tt
files_name recordings inputs n is (faults.HoldFile fault) stops = tt
files_name recordings inputs n is faults.Memory stops = tt
files_name recordings inputs n is fault (i, lt, before, stops) = absurd stops

module _ (recordings : Recordings) (inputs : List (Option (List ℕ))) (ob oa pb pa : Option (List ℕ)) where
  files_refused : (fault : CliFault) → IsFaultOfFiles recordings inputs fault → JoinStops recordings inputs ob oa pb pa fault
  files_refused (faults.Write path) (i, lt, before, stops) = absurd stops
  files_refused (faults.HoldFile fault) stops = inl stops
  files_refused faults.Memory stops = tt
  files_refused fault stops = stops

  module _ (whole : Contents) (lines : List ℕ) (each : JoinsEach recordings inputs whole lines) where
    made_refused : (fault : CliFault) → MadeStops whole lines ob oa pb pa fault → JoinStops recordings inputs ob oa pb pa fault
    made_refused (faults.Write named) stops = (whole, lines, each, stops)
    made_refused (faults.HoldFile fault) stops = inr (whole, lines, each, stops)
    made_refused fault stops = absurd stops

    -- that the union has no file is a fault of none
    made_later : {R : Type 0} (old new : List R) (fault : CliFault) → MadeStops whole lines ob oa pb pa fault → LaterFilesKept recordings inputs old new fault
    made_later old new (faults.HoldFile fault) stops = inr (whole, lines, each, stops)
    made_later old new (faults.Read path) stops = absurd stops
    made_later old new (faults.Hold fault) stops = absurd stops
    made_later old new fault stops = tt

pub record JoinOfBytes (recordings : Recordings) {T R : Type 0} (r : Result T CliFault) (inputs : List (Option (List ℕ))) (old new : List R) (ob oa pb pa : Option (List ℕ))
    : Type 0 where
  pub ok : OnOk r (JoinsFiles recordings inputs ob oa pb pa)
  pub err : IfErr r (JoinStops recordings inputs ob oa pb pa)
  pub later : IfErr r (LaterFilesKept recordings inputs old new)
  pub names : IfErr r (NamesPath (IsJoinPath (length old + 1)))

module _ {R : Type 0} (recordings : Recordings) (reports : R → Option (List ℕ)) (a b : ReadLog) (old new : List R) (out out' output output' : WriteLog) where
  abbrev of_bytes : {T : Type 0} → Result T CliFault → Type 0
  of_bytes r = JoinOfBytes recordings r (a.remaining ∷ map reports old) old new out.contents out'.contents output.contents output'.contents

  pub join_of_bytes : {T : Type 0} (r : Result T CliFault) → ReportsJoin recordings r reports a b old new out out' output output' → of_bytes r
  join_of_bytes (Ok x) (whole, text, all, made) = record {
    ok = record {
      whole = whole;
      text = text;
      each = all.each;
      file = made.file;
      saved = made.saved;
      written = made.written.bytes';
      printed = made.printed.bytes';
    };
    err = tt;
    later = tt;
    names = tt;
  }
  join_of_bytes (Err fault) (inl (stops, kept)) =
      let inputs = a.remaining ∷ map reports old in
      let place = at_place _ reports a b old new fault stops in
      let refused = of_files _ inputs old new fault place in
      record {
        ok = tt;
        err = files_refused _ inputs out.contents out'.contents output.contents output'.contents fault refused;
        later = later_kept _ inputs old new fault place;
        names = files_name _ inputs (length old) (omega (arith, length-map old reports)) fault refused;
      }
  join_of_bytes (Err fault) (inr (whole, text, all, breaks)) =
      let inputs = a.remaining ∷ map reports old in
      let stops = made_bytes whole text out out' output output' fault breaks in
      record {
        ok = tt;
        err = made_refused recordings inputs out.contents out'.contents output.contents output'.contents whole text all.each fault stops;
        later = made_later recordings inputs out.contents out'.contents output.contents output'.contents whole text all.each old new fault stops;
        names = made_says whole text out out' output output' (NamesPath (IsJoinPath (length old + 1))) (λ file. tt) tt tt fault breaks;
      }
