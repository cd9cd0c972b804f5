-- What decoding a frame does to the outputs.
use Rattle.std.proofs.Common.{◌≡◌, ℕ, List, Result, Ok, Err, refl, inl, inr, sym, subst}
use Rattle.ffv1_devices.specs.Logs.{ReadLog, WriteLog, Writes}
use Rattle.ffv1_range.specs.Setup.{SetupValue}
use Rattle.ffv1_picture.specs.FrameFaults.{IsFirstFault}
use Rattle.ffv1_picture.specs.declared.frame.Frame.{Frame}
use Rattle.ffv1_picture.specs.declared.fault.FrameFault.{FrameFault}
use Rattle.ffv1_picture.specs.declared.fault.FrameFault.TheVariants as frames
use Rattle.ffv1_commands.specs.Devices.{TakesWhole, IsWholeInput, BothStop}
use Rattle.ffv1_commands.specs.Inner.Devices.{WritesBoth}
use Rattle.ffv1_commands.specs.RecordInputs.{IsSetupInput, TakesSetup, RecordStops}
use Rattle.ffv1_commands.specs.Fault.{of_frame}
use Rattle.ffv1_commands.specs.Paths.{IsDecodePath}
use Rattle.ffv1_commands.specs.FrameText.{raw_bytes, decoded_frame_line}
use Rattle.ffv1_commands.specs.DecodeText.{IsFrameInput, DecodesFile, DecodeStops, TakesFrame, FrameStops, ReportsDecode}
use Rattle.ffv1_commands.specs.declared.fault.CliFault.{CliFault}
use Rattle.ffv1_commands.specs.declared.fault.CliFault.TheVariants as faults
use Rattle.ffv1_commands.specs.declared.path.CommandPath.TheVariants as paths
use Rattle.ffv1_commands.proofs.InputLaws.{whole_input}
use Rattle.ffv1_commands.proofs.OfBytes.{OfBytes, unwritten_bytes}
use Rattle.ffv1_commands.proofs.RecordFaults.{RecordStops-says}
use Rattle.ffv1_commands.proofs.WrittenBoth.{both_says}

-- Memory, and nothing else
abbrev IsMemory : FrameFault → Type 0
IsMemory frames.Memory = Unit {0}
IsMemory fault = ⊥

-- a payload's fault is reported as `Frame`, and memory as `Memory`
pub frame_refused : (setup : SetupValue) (a b : ReadLog) (payload : List ℕ) → TakesWhole a b payload → (fault : FrameFault)
    → IsFirstFault setup payload fault → FrameStops setup a b (of_frame fault)
frame_refused setup a b payload read frames.Memory first = (payload, read.read, read.few)
frame_refused setup a b payload read fault first = (payload, read, first, λ e. subst IsMemory (sym e) tt)

-- what any fault of the payload says, if that of each form says so
pub FrameStops-says : (P : CliFault → Type 0) (setup : SetupValue) (a b : ReadLog) (fault : CliFault) → P (faults.Read paths.Frame) → P faults.Memory
    → ((fault : FrameFault) → P (faults.Frame fault)) → FrameStops setup a b fault → P fault
FrameStops-says P setup a b (faults.Read named) read memory frame (is, unread) = subst (λ n. P (faults.Read n)) (sym is) read
FrameStops-says P setup a b (faults.Frame fault) read memory frame stops = frame fault
FrameStops-says P setup a b faults.Memory read memory frame stops = memory
FrameStops-says P setup a b fault read memory frame stops = absurd stops

module _ (width height : ℕ) (config config' input input' : ReadLog) (out out' output output' : WriteLog) (setup : SetupValue)
    (set : TakesSetup width height config config' setup) (frame : Frame) (is : TakesFrame setup input input' frame) (line : List ℕ)
    (size : line ≡ decoded_frame_line frame) where
  -- the samples and the size were written, or not whole
  pub decoded : {T : Type 0} (r : Result T CliFault) → WritesBoth r (raw_bytes frame) line out out' output output'
      → ReportsDecode r width height config config' input input' out out' output output'
  decoded (Ok x) (wrote, printed) = (setup, frame, set, is, wrote, subst (Writes output output') size printed)
  decoded (Err f) stops =
      inr (setup, set, inr (frame, is, subst (λ (l : List ℕ). BothStop f (raw_bytes frame) l out out' output output') size stops))

-- ---- the same of bytes

whole : (a b : ReadLog) (bytes : List ℕ) → TakesWhole a b bytes → IsWholeInput a.remaining bytes
whole a b bytes t = whole_input a.remaining b.remaining bytes (record { taken = t.read.bytes'; end = t.end; few = t.few })

setup_input : (a b : ReadLog) (width height : ℕ) (setup : SetupValue) → TakesSetup width height a b setup → IsSetupInput a.remaining width height setup
setup_input a b width height setup set = record { config = set.config; read = whole a b set.config set.read; is_setup = set.is_setup }

frame_input : (width height : ℕ) (config config' input input' : ReadLog) (setup : SetupValue) → TakesSetup width height config config' setup
    → (frame : Frame) → TakesFrame setup input input' frame → IsFrameInput config.remaining width height input.remaining frame
frame_input width height config config' input input' setup set frame is = record {
  setup = setup;
  of_record = setup_input config config' width height setup set;
  payload = is.payload;
  read = whole input input' is.payload is.read;
  decoded = is.decoded;
}

module _ (width height : ℕ) (config config' input input' : ReadLog) (out out' output output' : WriteLog) where
  abbrev Stops : CliFault → Type 0
  Stops fault = DecodeStops config.remaining width height input.remaining out.contents out'.contents output.contents output'.contents fault

  module _ {T : Type 0} where
    abbrev Did : T → Type 0
    Did x = DecodesFile config.remaining width height input.remaining out.contents out'.contents output.contents output'.contents

    record_bytes : (f : CliFault) → RecordStops width height config config' f → OfBytes Did Stops IsDecodePath (Err f)
    record_bytes f stops =
        RecordStops-says (λ f. OfBytes Did Stops IsDecodePath (Err f)) width height config config' f (record { ok = tt; err = inl refl; names = tt })
        (record { ok = tt; err = tt; names = tt })
        (λ fault bytes read first. record { ok = tt; err = (bytes, whole config config' bytes read, first); names = tt }) stops

    module _ (setup : SetupValue) (set : TakesSetup width height config config' setup) where
      frame_bytes : (f : CliFault) → FrameStops setup input input' f → OfBytes Did Stops IsDecodePath (Err f)
      frame_bytes (faults.Read path) (is, unread) =
          record { ok = tt; err = inr (is, (setup, setup_input config config' width height setup set)); names = subst IsDecodePath (sym is) tt }
      frame_bytes (faults.Frame fault) (payload, read, first, other) = record {
        ok = tt;
        err = (setup, setup_input config config' width height setup set, (payload, whole input input' payload read, first), other);
        names = tt;
      }
      frame_bytes faults.Memory stops = record { ok = tt; err = tt; names = tt }
      frame_bytes fault stops = absurd stops

      writing_bytes : (frame : Frame) → TakesFrame setup input input' frame → (f : CliFault)
          → BothStop f (raw_bytes frame) (decoded_frame_line frame) out out' output output' → OfBytes Did Stops IsDecodePath (Err f)
      writing_bytes frame is = both_says (raw_bytes frame) (decoded_frame_line frame) out out' output output'
          (λ f. OfBytes Did Stops IsDecodePath (Err f))
          (unwritten_bytes Did Stops IsDecodePath (raw_bytes frame) (decoded_frame_line frame) out out' output output' tt tt
          (λ named at. (frame, frame_input width height config config' input input' setup set frame is, at)))

    pub decode_of_bytes : (r : Result T CliFault) → ReportsDecode r width height config config' input input' out out' output output'
        → OfBytes Did Stops IsDecodePath r
    decode_of_bytes (Ok x) (setup, frame, set, is, wrote, printed) = record {
      ok = record { frame = frame; is_frame = frame_input width height config config' input input' setup set frame is; samples = wrote.bytes'; printed = printed.bytes' };
      err = tt;
      names = tt;
    }
    decode_of_bytes (Err f) (inl (stops, same, kept)) = record_bytes f stops
    decode_of_bytes (Err f) (inr (setup, set, inl (stops, kept))) = frame_bytes setup set f stops
    decode_of_bytes (Err f) (inr (setup, set, inr (frame, is, stops))) = writing_bytes setup set frame is f stops
