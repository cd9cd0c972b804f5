-- What `samples` writes is what the small definitions say.
use Rattle.std.proofs.Common.{ℕ, Bool, List, IfOk}
use Rattle.std.specs.Prelude.{Option, Result, Ok, Err}
use Rattle.ffv1_player.proofs.SmallRecords.{record_to}
use Rattle.ffv1_player.proofs.SmallNotions.{played_are_frames}
use Rattle.ffv1_commands.specs.SamplesText.{PlaysFiles}
use Rattle.ffv1_commands.specs.SmallSamples.{WritesFrames}
use Rattle.ffv1_commands.specs.declared.fault.CliFault.{CliFault}

module _ (record' : Option (List ℕ)) (width height : ℕ) (inputs : List (Option (List ℕ)))
    (out_before out_after printed_before printed_after : Option (List ℕ)) where
  writes_frames : (clean : Bool) → PlaysFiles record' width height inputs out_before out_after printed_before printed_after clean
      → WritesFrames record' width height inputs out_before out_after
  writes_frames clean h = record {
    config = h.of_record.config;
    record_read = h.of_record.read;
    recording = h.recording;
    is_record = record_to h.of_record.config width height h.recording h.of_record.is_recording;
    payloads = h.all.payloads;
    read = h.all.read;
    frames = h.frames;
    are_frames =
        played_are_frames h.of_record.config width height h.recording h.all.payloads h.frames h.all.end h.of_record.is_recording h.all.played;
    wrote = h.wrote;
  }

  pub written : (result : Result Bool CliFault) → IfOk result (PlaysFiles record' width height inputs out_before out_after printed_before printed_after)
      → IfOk result (λ _. WritesFrames record' width height inputs out_before out_after)
  written (Ok clean) h = writes_frames clean h
  written (Err fault) h = tt
