-- Frames that are played over devices, stated of the bytes of the record, the frames and the outputs.
use Rattle.std.proofs.Common.{◌≡◌, ◌⊎◌, ℕ, ◌<◌, List, [], ◌∷◌, ◌++◌, length, map, take, Option, None, Bool, Result, Ok, Err, IfErr, sym, ap, ◌∙◌, subst, inl, inr, arith}
use Rattle.std.proofs.KnownBytes.{Keeps-refl}
use Rattle.std.proofs.lemmas.List.{map-append}
use mathlib.Core.List.{map-map}
use Rattle.std.specs.Io.KnownBytes.{Keeps}
use Rattle.ffv1_range.specs.Setup.{RecordingValue}
use Rattle.ffv1_devices.specs.Logs.{ReadLog, WriteLog}
use Rattle.ffv1_player.specs.Frames.{LeftValue}
use Rattle.ffv1_player.specs.Players.{PlayerValue, player_value}
use Rattle.ffv1_player.specs.declared.samples.Samples.{Samples}
use Rattle.ffv1_player.specs.Payloads.{AreReadInTurn, AreReadUpTo}
use Rattle.ffv1_player.specs.Played.{PlaysAll, PlaysFront, StopsPlaying, HasFirstFrame}
use Rattle.ffv1_player.specs.declared.playing.PlayFault.{PlayFault}
use Rattle.ffv1_player.specs.declared.playing.PlayFault.TheVariants as stops
use Rattle.ffv1_commands.specs.Devices.{TakesWhole, IsWholeInput, AreWholeInputs, IfOfRecord}
use Rattle.ffv1_commands.specs.Fault.{of_play}
use Rattle.ffv1_commands.specs.InTurn.{log_of, WentAt}
use Rattle.ffv1_commands.specs.Paths.{IsTakePath}
use Rattle.ffv1_commands.specs.SamplesText.{ReportsSamples, BeginsPlaying, IsInputAt, PlaysFiles, PlaysBefore, SamplesStops, FirstIsFrame}
use Rattle.ffv1_commands.specs.RecordInputs.{IsRecordingInput, TakesRecording, RecordingStops}
use Rattle.ffv1_commands.specs.declared.fault.CliFault.{CliFault}
use Rattle.ffv1_commands.specs.declared.fault.CliFault.TheVariants as faults
use Rattle.ffv1_commands.specs.declared.path.CommandPath.TheVariants as paths
use Rattle.ffv1_commands.proofs.InputLaws.{whole_input}
use Rattle.ffv1_commands.proofs.MendCommandSteps.{inputs_of}
use Rattle.ffv1_commands.proofs.OfBytes.{OfBytes}
use Rattle.ffv1_commands.proofs.RecordFaults.{RecordingStops-says}
use Rattle.ffv1_commands.proofs.SpliceCommandSteps.{map_push}

-- ---- frames of which nothing was read yet

module _ {C D : Type 0} (log : C → ReadLog) (remaining : D → Option (List ℕ)) where
  abbrev pub logs_of : List D → List ReadLog
  logs_of frames = map (λ frame. log_of (remaining frame)) frames

  pub source_more : (sources more : List C) (frames : List D) (source : C) (frame : D) → more ≡ sources ++ source ∷ [] → map log sources ≡ logs_of frames
      → log source ≡ log_of (remaining frame) → map log more ≡ logs_of (frames ++ frame ∷ [])
  source_more sources more frames source frame pushed same one =
      sym (map_push log sources more source pushed) ∙ ap (λ (logs : List ReadLog). logs ++ log source ∷ []) same
      ∙ ap (λ (l : ReadLog). logs_of frames ++ l ∷ []) one ∙ sym (map-append (λ frame. log_of (remaining frame)) frames (frame ∷ []))

  pub sources_all : (sources : List C) (frames all : List D) → map (λ frame. frame) frames ≡ all → map log sources ≡ logs_of frames
      → map log sources ≡ logs_of all
  sources_all sources frames all is same =
      same ∙ sym (map-map (λ frame. log_of (remaining frame)) (λ frame. frame) frames) ∙ ap logs_of is

  -- their sources have the frames' bytes
  pub sources_are : (sources now : List C) (frames : List D) → now ≡ sources → map log sources ≡ logs_of frames
      → inputs_of (map log now) ≡ map remaining frames
  sources_are sources now frames value same =
      ap (λ all. inputs_of (map log all)) value ∙ ap inputs_of same
      ∙ map-map (λ (l : ReadLog). l.remaining) (λ frame. log_of (remaining frame)) frames

-- ---- what was read of sources

whole : (a b : ReadLog) (bytes : List ℕ) → TakesWhole a b bytes → IsWholeInput a.remaining bytes
whole a b bytes took = whole_input a.remaining b.remaining bytes (record { taken = took.read.bytes'; end = took.end; few = took.few })

-- all were read
whole_all : (old new : List ReadLog) (payloads : List (List ℕ)) → length payloads ≡ length old → AreReadInTurn old new payloads
    → AreWholeInputs (inputs_of old) payloads
whole_all [] new [] many read = tt
whole_all (a ∷ old) new [] many read = absurd (omega arith)
whole_all [] new (payload ∷ payloads) many read = absurd (omega arith)
whole_all (a ∷ old) [] (payload ∷ payloads) many read = absurd read
whole_all (a ∷ old) (b ∷ new) (payload ∷ payloads) many (read, reads) = (whole a b payload read, whole_all old new payloads (omega arith) reads)

-- a front was read
whole_front : (old new : List ReadLog) (payloads : List (List ℕ)) → AreReadInTurn old new payloads
    → AreWholeInputs (take (length payloads) (inputs_of old)) payloads
whole_front [] new [] read = tt
whole_front (a ∷ old) new [] read = tt
whole_front [] new (payload ∷ payloads) read = absurd read
whole_front (a ∷ old) [] (payload ∷ payloads) read = absurd read
whole_front (a ∷ old) (b ∷ new) (payload ∷ payloads) (read, reads) = (whole a b payload read, whole_front old new payloads reads)

-- and the next source too
whole_next : (old new : List ReadLog) (payloads : List (List ℕ)) (payload : List ℕ) → AreReadInTurn old new (payloads ++ payload ∷ [])
    → AreWholeInputs (take (length payloads) (inputs_of old)) payloads × IsInputAt (inputs_of old) (length payloads) payload
whole_next [] new [] payload read = absurd read
whole_next (a ∷ old) [] [] payload read = absurd read
whole_next (a ∷ old) (b ∷ new) [] payload (read, reads) = (tt, (omega arith, whole a b payload read))
whole_next [] new (first ∷ payloads) payload read = absurd read
whole_next (a ∷ old) [] (first ∷ payloads) payload read = absurd read
whole_next (a ∷ old) (b ∷ new) (first ∷ payloads) payload (read, reads) =
    let (front, (there, here)) = whole_next old new payloads payload reads in
    ((whole a b first read, front), (omega arith, here))

-- or it went otherwise
whole_up_to : (Went : ReadLog → ReadLog → Type 0) (old new : List ReadLog) (payloads : List (List ℕ)) → AreReadUpTo Went old new payloads
    → AreWholeInputs (take (length payloads) (inputs_of old)) payloads × (length payloads < length (inputs_of old))
whole_up_to Went [] new [] read = absurd read
whole_up_to Went (a ∷ old) [] [] read = absurd read
whole_up_to Went (a ∷ old) (b ∷ new) [] read = (tt, omega arith)
whole_up_to Went [] new (payload ∷ payloads) read = absurd read
whole_up_to Went (a ∷ old) [] (payload ∷ payloads) read = absurd read
whole_up_to Went (a ∷ old) (b ∷ new) (payload ∷ payloads) (read, reads) =
    let (front, there) = whole_up_to Went old new payloads reads in
    ((whole a b payload read, front), omega arith)

pub went_up_to : (Went : ReadLog → ReadLog → Type 0) (old new : List ReadLog) (payloads : List (List ℕ)) → AreReadUpTo Went old new payloads
    → WentAt Went (length payloads) old new
went_up_to Went [] new [] read = absurd read
went_up_to Went (a ∷ old) [] [] read = absurd read
went_up_to Went (a ∷ old) (b ∷ new) [] (went, same) = went
went_up_to Went [] new (payload ∷ payloads) read = absurd read
went_up_to Went (a ∷ old) [] (payload ∷ payloads) read = absurd read
went_up_to Went (a ∷ old) (b ∷ new) (payload ∷ payloads) (read, reads) = went_up_to Went old new payloads reads

-- ---- a fault of playing is none of the record

pub play_is_later : (stop : PlayFault) (P : Type 0) → IfOfRecord (of_play stop) P
play_is_later (stops.Read place) P = λ same. absurd (cc)
play_is_later (stops.Samples number fault) P = tt
play_is_later stops.Out P = tt
play_is_later stops.Output P = tt
play_is_later stops.Memory P = tt

-- what follows of what is untouched before the first frame is decoded
pub begun_so : {T : Type 0} (r : Result T CliFault) (P Q P' Q' : Type 0) → IfErr r (λ _. P ⊎ Q) → (P → P') → (Q → Q') → IfErr r (λ _. P' ⊎ Q')
begun_so (Ok x) P Q P' Q' begun kept first = tt
begun_so (Err fault) P Q P' Q' (inl same) kept first = inl (kept same)
begun_so (Err fault) P Q P' Q' (inr is) kept first = inr (first is)

pub begun_as : {P Q Q' : Type 0} → (Q → Q') → P ⊎ Q → P ⊎ Q'
begun_as first (inl same) = inl same
begun_as first (inr is) = inr (first is)

-- ---- a player of which no frame was decoded

module _ (player : PlayerValue) (begins : player ≡ player_value player.recording None) (old new : List ReadLog) where
  pub all_from_none : (o o' p p' : WriteLog) (clean : Bool) → PlaysAll player old new o o' p p' clean
      → PlaysAll (player_value player.recording None) old new o o' p p' clean
  all_from_none o o' p p' clean played = subst (λ (now : PlayerValue). PlaysAll now old new o o' p p' clean) begins played

  pub stop_from_none : (o o' p p' : WriteLog) (stop : PlayFault) → StopsPlaying player old new o o' p p' stop
      → StopsPlaying (player_value player.recording None) old new o o' p p' stop
  stop_from_none o o' p p' stop played = subst (λ (now : PlayerValue). StopsPlaying now old new o o' p p' stop) begins played

  pub first_from_none : HasFirstFrame player old new → HasFirstFrame (player_value player.recording None) old new
  first_from_none first = subst (λ (now : PlayerValue). HasFirstFrame now old new) begins first

-- ---- over bytes

record_input : (width height : ℕ) (a b : ReadLog) (recording : RecordingValue) → TakesRecording width height a b recording
    → IsRecordingInput a.remaining width height recording
record_input width height a b recording takes =
    record { config = takes.config; read = whole a b takes.config takes.read; is_recording = takes.is_recording }

module _ (width height : ℕ) (a b : ReadLog) where
  first_of_bytes : (recording : RecordingValue) → TakesRecording width height a b recording → (old new : List ReadLog)
      → HasFirstFrame (player_value recording None) old new → FirstIsFrame a.remaining width height (inputs_of old)
  first_of_bytes recording takes [] new first = absurd first
  first_of_bytes recording takes (one ∷ old) [] first = absurd first
  first_of_bytes recording takes (one ∷ old) (two ∷ new) (payload, frame, left, took, played) =
      (recording, payload, frame, left, record_input width height a b recording takes, (omega arith, whole one two payload took), played)

  -- the first frame was decoded
  pub begins_of_bytes : (old new : List ReadLog) → BeginsPlaying width height a b old new → FirstIsFrame a.remaining width height (inputs_of old)
  begins_of_bytes old new (recording, takes, first) = first_of_bytes recording takes old new first

module _ (width height : ℕ) (a b : ReadLog) (old new : List ReadLog) (o o' p p' : WriteLog) where
  abbrev Plays : Bool → Type 0
  Plays clean = PlaysFiles a.remaining width height (inputs_of old) o.contents o'.contents p.contents p'.contents clean

  abbrev Stops : CliFault → Type 0
  Stops fault = SamplesStops a.remaining width height (inputs_of old) o.contents o'.contents p.contents p'.contents fault

  abbrev pub SamplesOfBytes : Result Bool CliFault → Type 0
  SamplesOfBytes r = OfBytes Plays Stops (IsTakePath (length (inputs_of old))) r

  kept : (x y : WriteLog) → y ≡ x → Keeps x.contents y.contents
  kept x y same = subst (λ (log : WriteLog). Keeps x.contents log.contents) (sym same) (Keeps-refl x.contents)

  -- the record gives no recording
  unrecorded : (fault : CliFault) → o' ≡ o → p' ≡ p → RecordingStops width height a b fault → SamplesOfBytes (Err fault)
  unrecorded fault out output stops =
      RecordingStops-says (λ f. SamplesOfBytes (Err f)) width height a b fault
      (record { ok = tt; err = (kept o o' out, kept p p' output); names = tt })
      (record { ok = tt; err = inl (kept o o' out, kept p p' output); names = tt })
      (λ setup config took first.
      record { ok = tt; err = ((config, whole a b config took, first), kept o o' out, kept p p' output); names = tt }) stops

  module _ (recording : RecordingValue) (takes : TakesRecording width height a b recording) where
    abbrev input : IsRecordingInput a.remaining width height recording
    input = record_input width height a b recording takes

    -- the frames before a place were played
    abbrev before : (payloads : List (List ℕ)) (frames : List Samples) (end : Option (List LeftValue))
        → AreWholeInputs (take (length payloads) (inputs_of old)) payloads → PlaysFront (player_value recording None) payloads frames end o o' p p'
        → PlaysBefore a.remaining width height (inputs_of old) (length payloads) o.contents o'.contents p.contents p'.contents
    before payloads frames end read front = record {
      recording = recording;
      of_record = input;
      frames = frames;
      front = record { payloads = payloads; read = read; end = end; played = front.played };
      wrote = front.wrote.bytes';
      printed = front.printed.bytes';
    }

    stopped : (stop : PlayFault) → StopsPlaying (player_value recording None) old new o o' p p' stop → SamplesOfBytes (Err (of_play stop))
    stopped (stops.Read place) (payloads, frames, end, is, read, front) =
        let (whole, there) = whole_up_to _ old new payloads read in
        subst (λ (n : ℕ). SamplesOfBytes (Err (faults.Read (paths.Copy n)))) (sym is)
        (record { ok = tt; err = (there, before payloads frames end whole front); names = there })
    stopped (stops.Samples number fault) (payloads, payload, frames, end, is, read, front, first, other) =
        let (whole, here) = whole_next old new payloads payload read in
        record { ok = tt; err = (length payloads, payload, is, here, before payloads frames end whole front, first, other); names = tt }
    stopped stops.Out (payloads, frames, frame, end, read, played, breaks, printed) = record {
      ok = tt;
      err = (
        length payloads,
        recording,
        frames,
        frame,
        input,
        record { payloads = payloads; read = whole_front old new payloads read; end = end; played = played },
        breaks.front,
        printed.bytes',
      );
      names = tt;
    }
    stopped stops.Output (payloads, frames, end, read, played, wrote, breaks) = record {
      ok = tt;
      err = (
        length payloads,
        recording,
        frames,
        input,
        record { payloads = payloads; read = whole_front old new payloads read; end = end; played = played },
        wrote.bytes',
        breaks.front,
      );
      names = tt;
    }
    stopped stops.Memory (payloads, frames, end, read, front) =
        let (whole, there) = whole_up_to _ old new payloads read in
        record { ok = tt; err = inr (length payloads, before payloads frames end whole front); names = tt }

  pub samples_of_bytes : (r : Result Bool CliFault) → ReportsSamples r width height a b old new o o' p p' → SamplesOfBytes r
  samples_of_bytes (Ok clean) (recording, takes, all) = record {
    ok = record {
      recording = recording;
      of_record = record_input width height a b recording takes;
      frames = all.frames;
      all = record { payloads = all.payloads; read = whole_all old new all.payloads all.count all.read; end = all.end; played = all.played };
      wrote = all.wrote.bytes';
      printed = all.printed.bytes';
      returned = all.returned;
    };
    err = tt;
    names = tt;
  }
  samples_of_bytes (Err fault) (inl (unread, same, (out, output))) = unrecorded fault out output unread
  samples_of_bytes (Err fault) (inr (stop, is, (recording, takes, played))) =
      subst (λ f. SamplesOfBytes (Err f)) (sym is) (stopped recording takes stop played)

-- the same, of readers
pub samples_of_files : {C D : Type 0} (log : C → ReadLog) (remaining : D → Option (List ℕ)) (sources now : List C) (frames : List D) → now ≡ sources
    → map log sources ≡ logs_of log remaining frames → (width height : ℕ) (a b : ReadLog) (new : List ReadLog) (o o' p p' : WriteLog) (r : Result Bool CliFault)
    → ReportsSamples r width height a b (map log now) new o o' p p'
    → OfBytes (PlaysFiles a.remaining width height (map remaining frames) o.contents o'.contents p.contents p'.contents)
    (SamplesStops a.remaining width height (map remaining frames) o.contents o'.contents p.contents p'.contents) (IsTakePath (length (map remaining frames))) r
samples_of_files log remaining sources now frames value same width height a b new o o' p p' r reported =
    subst (λ (inputs : List (Option (List ℕ))). OfBytes (PlaysFiles a.remaining width height inputs o.contents o'.contents p.contents p'.contents)
    (SamplesStops a.remaining width height inputs o.contents o'.contents p.contents p'.contents) (IsTakePath (length inputs)) r)
    (sources_are log remaining sources now frames value same) (samples_of_bytes width height a b _ new o o' p p' r reported)

-- the same of inputs by other names
pub begins_of_inputs : (width height : ℕ) (a b : ReadLog) (old new : List ReadLog) (record' : Option (List ℕ)) (inputs : List (Option (List ℕ)))
    → a.remaining ≡ record' → inputs_of old ≡ inputs → BeginsPlaying width height a b old new → FirstIsFrame record' width height inputs
begins_of_inputs width height a b old new record' inputs of_record same begins =
    subst (λ (given : Option (List ℕ)). FirstIsFrame given width height inputs) of_record
    (subst (FirstIsFrame a.remaining width height) same (begins_of_bytes width height a b old new begins))
