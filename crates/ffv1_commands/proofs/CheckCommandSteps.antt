-- A check over devices, stated of the bytes of its file and its output.
use Rattle.std.proofs.Common.{◌≡◌, ◌⊎◌, ℕ, List, [], ◌++◌, Option, None, Some, Bool, IfSome, Result, Ok, Err, IfOk, IfErr, refl, sym, ap, ◌∙◌, subst, inl, inr, append-nil}
use Rattle.std.specs.Io.KnownBytes.{Keeps, Consumes, IsAtEnd}
use Rattle.std.proofs.KnownBytes.{Consumes-whole, Keeps-refl}
use Rattle.ffv1_devices.specs.Logs.{ReadLog, WriteLog, StopsWriting}
use Rattle.ffv1_devices.proofs.Steps.{Reads-nil}
use Rattle.ebml_reader.specs.Reader.{IsFault}
use Rattle.ebml_reader.specs.declared.fault.ReaderFault.{ReaderFault}
use Rattle.ebml_reader.specs.declared.fault.ReaderFault.TheVariants as stops
use Rattle.matroska_parts.specs.ItemParts.{PlacedContent}
use Rattle.matroska_parts.specs.SourceParts.{found_in, IsFirstTracksOf, FindsTracks}
use Rattle.matroska_parts.specs.declared.tracks_search.FoundTracks.{FoundTracks}
use Rattle.ffv1_check.specs.Checks.{IsCheckOf}
use Rattle.ffv1_check.specs.SourceChecks.{ChecksSource}
use Rattle.ffv1_check.specs.ReportLines.{check_text}
use Rattle.ffv1_check.specs.declared.report.Report.{Report}
use Rattle.ffv1_commands.specs.Devices.{UnlessWriting}
use Rattle.ffv1_commands.specs.Fault.{NamesPath, of_reader}
use Rattle.ffv1_commands.specs.Paths.{IsCheckPath}
use Rattle.ffv1_commands.specs.CheckText.{TakesReport, CheckBreaks, ChecksDevices, IsCheckOfFile, ChecksFile, CheckStops}
use Rattle.ffv1_commands.specs.declared.fault.CliFault.{CliFault}
use Rattle.ffv1_commands.specs.declared.fault.CliFault.TheVariants as faults
use Rattle.ffv1_commands.specs.declared.path.CommandPath.TheVariants as paths

-- the first Tracks was not found, which leaves the second source and the output as they were
pub check_unfound : (a b c : ReadLog) (output : WriteLog) (fault : ReaderFault) → IsFault fault 0 a b → CheckBreaks (of_reader fault) a b c c output output
check_unfound a b c output stops.Read stopped = (refl, inl (stopped, refl), refl)
check_unfound a b c output stops.Memory read = (read, ([], Reads-nil c), refl)

-- the file was not read after that, which leaves the output as it was
pub check_unread : (a b c d : ReadLog) (output : WriteLog) (found : FoundTracks) → FindsTracks found a b → (fault : ReaderFault) → ChecksSource found (Err fault) c d
    → CheckBreaks (of_reader fault) a b c d output output
check_unread a b c d output found finds stops.Read stopped = (refl, inr (found, finds, stopped), refl)
check_unread a b c d output found finds stops.Memory read = ((finds.read, finds.reads), read, refl)

-- there was no memory for the report's text
pub check_untold : (a b c d : ReadLog) (output : WriteLog) (report : Report) → TakesReport a b c d report → CheckBreaks faults.Memory a b c d output output
check_untold a b c d output report takes = ((takes.finds.read, takes.finds.reads), (takes.checks.file, takes.checks.reads), refl)

pub check_untouched : {W : Type 0} (output : W) (fault : ReaderFault) → UnlessWriting (of_reader fault) (output ≡ output)
check_untouched output stops.Read = refl
check_untouched output stops.Memory = refl

-- the report was not printed whole
pub check_unwritten : (a b c d : ReadLog) (old new : WriteLog) (report : Report) → TakesReport a b c d report → (text : List ℕ) → text ≡ check_text report
    → (fault : CliFault) → (fault ≡ faults.Write paths.StandardOutput) × StopsWriting old new text → CheckBreaks fault a b c d old new
check_unwritten a b c d old new report takes text is fault wrote =
    subst (λ f. CheckBreaks f a b c d old new) (sym wrote.0) (refl, (report, takes, subst (StopsWriting old new) is wrote.1))

-- the first Tracks that was found is that of all that the source would give
first_of : (found : Option PlacedContent) (known left : Option (List ℕ)) (read : List ℕ) → Consumes known left read
    → ((more : List ℕ) → IsFirstTracksOf found (read ++ more)) ⊎ (IsAtEnd left × IsFirstTracksOf found read) → IfSome known (IsFirstTracksOf found)
first_of found None left read consumed is = tt
first_of found (Some file) None read consumed is = absurd consumed
first_of found (Some file) (Some rest) read consumed (inl every) = subst (IsFirstTracksOf found) (sym consumed) (every rest)
first_of found (Some file) (Some rest) read consumed (inr (end, is)) =
    subst (IsFirstTracksOf found) (sym (consumed ∙ ap (λ (l : List ℕ). read ++ l) end ∙ append-nil read)) is

-- so the report is that of the file
of_first : (found : Option PlacedContent) (known : Option (List ℕ)) (report : Report) → IfSome known (IsFirstTracksOf found)
    → IfSome known (λ bytes. IsFirstTracksOf found bytes → IsCheckOf bytes report) → IsCheckOfFile known report
of_first found None report first is = tt
of_first found (Some bytes) report first is = is first

-- If both sources would give the same file, this was done with its bytes, or a fault stopped it; and a fault names a path of the command.
pub record CheckOfBytes (r : Result Bool CliFault) (first second before after : Option (List ℕ)) : Type 0 where
  pub ok : first ≡ second → IfOk r (ChecksFile second before after)
  pub err : first ≡ second → IfErr r (CheckStops second before after)
  pub names : IfErr r (NamesPath IsCheckPath)

module _ (a b c d : ReadLog) (x y : WriteLog) where
  kept : y ≡ x → Keeps x.contents y.contents
  kept same = subst (λ (log : WriteLog). Keeps x.contents log.contents) (sym same) (Keeps-refl x.contents)

  of_file : (report : Report) → TakesReport a b c d report → a.remaining ≡ c.remaining → IsCheckOfFile c.remaining report
  of_file report takes same =
      let found = found_in takes.found in
      let first = first_of found a.remaining b.remaining takes.finds.read takes.finds.reads.bytes' takes.finds.is in
      let checked = takes.checks in
      of_first found c.remaining report (subst (λ known. IfSome known (IsFirstTracksOf found)) same first)
      (Consumes-whole _ _ checked.file (λ bytes. IsFirstTracksOf found bytes → IsCheckOf bytes report) checked.reads.bytes' checked.end checked.is)

  pub check_of_bytes : (r : Result Bool CliFault) → ChecksDevices r a b c d x y → CheckOfBytes r a.remaining c.remaining x.contents y.contents
  check_of_bytes (Ok whole) (report, takes, returned, wrote) = record {
    ok = λ same. record { report = report; is_check = of_file report takes same; printed = wrote.bytes'; returned = returned };
    err = λ same. tt;
    names = tt;
  }
  check_of_bytes (Err (faults.Read path)) (named, unread, as_before) = record {
    ok = λ same. tt;
    err = λ same. (named, kept as_before);
    names = subst IsCheckPath (sym named) tt;
  }
  check_of_bytes (Err faults.Memory) (first, second, as_before) = record { ok = λ same. tt; err = λ same. kept as_before; names = tt }
  check_of_bytes (Err (faults.Write path)) (named, (report, takes, stopped)) = record {
    ok = λ same. tt;
    err = λ same. (named, record { report = report; is_check = of_file report takes same; printed = stopped.front });
    names = subst IsCheckPath (sym named) tt;
  }
  check_of_bytes (Err fault) stops = absurd stops
