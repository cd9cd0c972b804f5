-- What showing a holding file says of the file and the outputs.
use Rattle.std.proofs.Common.{ℕ, Bool, List, Result, Ok, Err, IfOk, IfErr, inl, inr, refl, arith}
use Rattle.ffv1_holding.specs.declared.recordings.Recordings.{Recordings}
use Rattle.ffv1_devices.specs.Logs.{ReadLog, WriteLog}
use Rattle.ffv1_holding.specs.Contents.{Contents}
use Rattle.ffv1_hold.specs.FileFaults.{ReadsHolding}
use Rattle.ffv1_holding.specs.declared.recordings.Recordings.TheVariants.{Profile, Any}
use Rattle.ffv1_picture.specs.PartialPictures.{IsPartialPicture}
use Rattle.ffv1_player.specs.Shown.{ShowsHolding}
use Rattle.ffv1_commands.specs.PictureText.{partial_samples, partial_lines, IsWholePartial, ShowsFile, PictureStops, ReportsPicture}
use Rattle.ffv1_commands.specs.AnyPictureText.{shown_samples, shown_lines, IsWholeShown, ShowsAnyFile, AnyPictureStops, ReportsAnyPicture}
use Rattle.ffv1_commands.specs.Paths.{IsHoldPath}
use Rattle.ffv1_commands.specs.Inner.Pictures.{WritingStops}
use Rattle.ffv1_commands.specs.Pictures.{ShowsPicture, ShowingStops, ShowingRefuses, WritesPicture, ReportsShowing}
use Rattle.ffv1_commands.specs.declared.fault.CliFault.{CliFault}
use Rattle.ffv1_commands.specs.declared.fault.CliFault.TheVariants as faults
use Rattle.ffv1_commands.proofs.HeldFiles.{held_file}
use Rattle.ffv1_commands.proofs.OfBytes.{OfBytes, unread_bytes, unwritten_bytes}

module _ {P : Type 0} (recordings : Recordings) (IsShown : Contents → P → Type 0) (samples_of lines_of : P → List ℕ) (IsWhole : P → Type 0)
    (file file' : ReadLog) (out out' output output' : WriteLog) where
  -- once the file was read
  showing_refused : (h : Contents) (shown : P) → IsShown h shown → (f : CliFault) → WritingStops (samples_of shown) (lines_of shown) out out' output output' f
      → ShowingRefuses IsShown samples_of lines_of h out out' output output' f
  showing_refused h shown is faults.Memory kept = kept
  showing_refused h shown is (faults.Write named) stops = (shown, is, stops)
  showing_refused h shown is fault stops = absurd stops

  pub showing_reported : (h : Contents) → ReadsHolding recordings file file' h → (shown : P) → IsShown h shown → (r : Result Bool CliFault)
      → IfOk r (WritesPicture (samples_of shown) (lines_of shown) (IsWhole shown) out out' output output')
      → IfErr r (WritingStops (samples_of shown) (lines_of shown) out out' output output')
      → ReportsShowing recordings IsShown samples_of lines_of IsWhole r file file' out out' output output'
  showing_reported h read shown is (Ok whole) wrote stops = (h, read, (shown, is, wrote))
  showing_reported h read shown is (Err f) wrote stops = inr (h, read, showing_refused h shown is f stops)

  -- ---- the same of bytes

  abbrev Did : Bool → Type 0
  Did whole = ShowsPicture recordings IsShown samples_of lines_of IsWhole file.remaining out.contents out'.contents output.contents output'.contents whole

  abbrev Stops : CliFault → Type 0
  Stops fault = ShowingStops recordings IsShown samples_of lines_of file.remaining out.contents out'.contents output.contents output'.contents fault

  refused_bytes : (h : Contents) → ReadsHolding recordings file file' h → (f : CliFault) → ShowingRefuses IsShown samples_of lines_of h out out' output output' f
      → OfBytes Did Stops IsHoldPath (Err f)
  refused_bytes h read faults.Memory kept = record { ok = tt; err = tt; names = tt }
  refused_bytes h read (faults.Write named) (shown, is, stops) =
      unwritten_bytes Did Stops IsHoldPath (samples_of shown) (lines_of shown) out out' output output' tt tt
      (λ named at. (h, shown, held_file recordings file file' h read, is, at)) named stops
  refused_bytes h read fault stops = absurd stops

  showing_of_bytes : (r : Result Bool CliFault) → ReportsShowing recordings IsShown samples_of lines_of IsWhole r file file' out out' output output'
      → OfBytes Did Stops IsHoldPath r
  showing_of_bytes (Ok whole) (h, read, (shown, is, wrote)) = record {
    ok = record {
      held = h;
      shown = shown;
      file = held_file recordings file file' h read;
      picture = is;
      samples = wrote.wrote.bytes';
      printed = wrote.printed.bytes';
      is_whole = wrote.is_whole;
    };
    err = tt;
    names = tt;
  }
  showing_of_bytes (Err f) (inl (stops, kept)) = unread_bytes Did Stops IsHoldPath recordings file file' f (omega arith) refl tt (λ fault met. met) stops
  showing_of_bytes (Err f) (inr (h, read, refuses)) = refused_bytes h read f refuses

pub picture_of_bytes : (file file' : ReadLog) (out out' output output' : WriteLog) (r : Result Bool CliFault) → ReportsPicture r file file' out out' output output'
    → OfBytes (λ whole. ShowsFile file.remaining out.contents out'.contents output.contents output'.contents whole)
    (λ fault. PictureStops file.remaining out.contents out'.contents output.contents output'.contents fault) IsHoldPath r
picture_of_bytes = showing_of_bytes Profile IsPartialPicture partial_samples partial_lines IsWholePartial

pub any_picture_of_bytes : (file file' : ReadLog) (out out' output output' : WriteLog) (r : Result Bool CliFault) → ReportsAnyPicture r file file' out out' output output'
    → OfBytes (λ whole. ShowsAnyFile file.remaining out.contents out'.contents output.contents output'.contents whole)
    (λ fault. AnyPictureStops file.remaining out.contents out'.contents output.contents output'.contents fault) IsHoldPath r
any_picture_of_bytes = showing_of_bytes Any ShowsHolding shown_samples shown_lines IsWholeShown
