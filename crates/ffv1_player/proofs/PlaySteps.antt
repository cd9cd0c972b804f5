-- One frame more is played.
use Rattle.std.proofs.Common.{◌≡◌, ◌+◌, ◌<◌, ℕ, suc, Bool, true, ◌&&◌, List, [], ◌∷◌, ◌++◌, length, Option, Some, Result, Ok, Err, refl, sym, ap, subst, ◌∙◌, ◌⊎◌, inl, inr, append-nil, append_assoc, length-append, arith}
use Rattle.std.proofs.lemmas.Grind.{flat_map-append}
use Rattle.std.proofs.lemmas.List.Folds.{list_all-append}
use Rattle.std.proofs.Math.Bool.{and-true}
use Rattle.ffv1_range.specs.Setup.{RecordingValue}
use Rattle.ffv1_devices.specs.Logs.{ReadLog, WriteLog, Writes, StopsWriting}
use Rattle.ffv1_devices.proofs.Steps.{Writes-nil, Writes-trans, StopsWriting-after}
use Rattle.ffv1_player.specs.Frames.{LeftValue, IsPlayedFrame}
use Rattle.ffv1_player.specs.Faults.{IsFirstSamplesFault}
use Rattle.ffv1_player.specs.Players.{PlayerValue, player_value}
use Rattle.ffv1_player.specs.Written.{samples_bytes}
use Rattle.ffv1_player.specs.declared.samples.Samples.{Samples}
use Rattle.ffv1_player.specs.Payloads.{TakesWhole, StopsWithin, IsUnread, AreReadInTurn, AreReadUpTo}
use Rattle.ffv1_player.specs.FrameLines.{is_clean_frame, frame_text, frames_text}
use Rattle.ffv1_player.specs.Played.{ArePlayed, frames_bytes, are_clean, PlaysAll, PlaysFront, StopsPlaying, HasFirstFrame}
use Rattle.ffv1_player.specs.Inner.PlaySteps.{DecodesNext, PlaysNext, ShowsFrame}
use Rattle.ffv1_player.specs.declared.playing.PlayFault.{PlayFault}
use Rattle.ffv1_player.specs.declared.playing.PlayFault.TheVariants as faults
use Rattle.ffv1_player.proofs.Turns.{in_turn}

-- ---- frames

ArePlayed-push : (r : RecordingValue) (last : Option (List LeftValue)) (payloads : List (List ℕ)) (frames : List Samples) (end : Option (List LeftValue))
    (payload : List ℕ) (frame : Samples) (left : List LeftValue) → ArePlayed r last payloads frames end → IsPlayedFrame r end payload frame left
    → ArePlayed r last (payloads ++ payload ∷ []) (frames ++ frame ∷ []) (Some left)
ArePlayed-push r last [] [] end payload frame left played is =
    (left, subst (λ (e : Option (List LeftValue)). IsPlayedFrame r e payload frame left) played is, refl)
ArePlayed-push r last [] (f ∷ fs) end payload frame left played is = absurd played
ArePlayed-push r last (p ∷ ps) [] end payload frame left played is = absurd played
ArePlayed-push r last (p ∷ ps) (f ∷ fs) end payload frame left (own, here, rest) is =
    (own, here, ArePlayed-push r (Some own) ps fs end payload frame left rest is)

length-ArePlayed : (r : RecordingValue) (last : Option (List LeftValue)) (payloads : List (List ℕ)) (frames : List Samples) (end : Option (List LeftValue))
    → ArePlayed r last payloads frames end → length payloads ≡ length frames
length-ArePlayed r last [] [] end played = refl
length-ArePlayed r last [] (f ∷ fs) end played = absurd played
length-ArePlayed r last (p ∷ ps) [] end played = absurd played
length-ArePlayed r last (p ∷ ps) (f ∷ fs) end (own, here, rest) = ap suc (length-ArePlayed r (Some own) ps fs end rest)

frames_bytes-push : (frames : List Samples) (frame : Samples) → frames_bytes (frames ++ frame ∷ []) ≡ frames_bytes frames ++ samples_bytes frame
frames_bytes-push frames frame =
    flat_map-append samples_bytes frames (frame ∷ []) ∙ ap (λ (bytes : List ℕ). frames_bytes frames ++ bytes) (append-nil (samples_bytes frame))

frames_text-push : (number : ℕ) (frames : List Samples) (frame : Samples)
    → frames_text number (frames ++ frame ∷ []) ≡ frames_text number frames ++ frame_text (number + length frames) frame
frames_text-push number [] frame = append-nil (frame_text number frame) ∙ ap (λ (n : ℕ). frame_text n frame) (let e : number ≡ number + 0 = omega arith in e)
frames_text-push number (f ∷ fs) frame =
    ap (λ (text : List ℕ). frame_text number f ++ text)
    (frames_text-push (number + 1) fs frame
    ∙ ap (λ (n : ℕ). frames_text (number + 1) fs ++ frame_text n frame) (let e : number + 1 + length fs ≡ number + suc (length fs) = omega arith in e))
    ∙ sym (append_assoc (frame_text number f) (frames_text (number + 1) fs) (frame_text (number + suc (length fs)) frame))

are_clean-push : (frames : List Samples) (frame : Samples) → are_clean (frames ++ frame ∷ []) ≡ (are_clean frames && is_clean_frame frame)
are_clean-push frames frame = list_all-append is_clean_frame frames (frame ∷ []) ∙ ap (λ (b : Bool). are_clean frames && b) (and-true (is_clean_frame frame))

-- ---- the first frame

first_in_turn : (player : PlayerValue) (olds news : List ReadLog) (payloads : List (List ℕ)) (frames : List Samples) (end : Option (List LeftValue)) → 0 < length payloads
    → AreReadInTurn olds news payloads → ArePlayed player.recording player.last payloads frames end → HasFirstFrame player olds news
first_in_turn player olds news [] frames end some read played = let e : ⊥ = omega arith in absurd e
first_in_turn player [] news (p ∷ ps) frames end some read played = absurd read
first_in_turn player (o ∷ olds) [] (p ∷ ps) frames end some read played = absurd read
first_in_turn player (o ∷ olds) (n ∷ news) (p ∷ ps) [] end some read played = absurd played
first_in_turn player (o ∷ olds) (n ∷ news) (p ∷ ps) (f ∷ fs) end some read (left, is, rest) = (p, f, left, read.0, is)

first_up_to : (Went : ReadLog → ReadLog → Type 0) (player : PlayerValue) (olds news : List ReadLog) (payloads : List (List ℕ)) (frames : List Samples)
    (end : Option (List LeftValue)) → 0 < length payloads → AreReadUpTo Went olds news payloads → ArePlayed player.recording player.last payloads frames end
    → HasFirstFrame player olds news
first_up_to Went player [] news payloads frames end some read played = absurd read
first_up_to Went player (o ∷ olds) [] payloads frames end some read played = absurd read
first_up_to Went player (o ∷ olds) (n ∷ news) [] frames end some read played = let e : ⊥ = omega arith in absurd e
first_up_to Went player (o ∷ olds) (n ∷ news) (p ∷ ps) [] end some read played = absurd played
first_up_to Went player (o ∷ olds) (n ∷ news) (p ∷ ps) (f ∷ fs) end some read (left, is, rest) = (p, f, left, read.0, is)

-- ---- one frame

-- what is decoded of a payload that was read whole
pub next_of : (place number : ℕ) (payload : List ℕ) (before after : PlayerValue) (result : Result Samples PlayFault) (old new : ReadLog)
    → TakesWhole old new payload → DecodesNext number payload before after result → PlaysNext place number before after result old new
next_of place number payload before after (Ok frame) old new took (left, is, goes_on) = (payload, left, took, is, goes_on)
next_of place number payload before after (Err (faults.Samples named fault)) old new took (is, first, other) = (is, (payload, took, first, other))
next_of place number payload before after (Err faults.Memory) old new took stopped = (payload, took.read, took.few)
next_of place number payload before after (Err (faults.Read named)) old new took stopped = absurd stopped
next_of place number payload before after (Err faults.Out) old new took stopped = absurd stopped
next_of place number payload before after (Err faults.Output) old new took stopped = absurd stopped

-- ---- frames so far

-- The frames of the sources before this place were played, and the player goes on from the last of them.
pub record IsPlaying (player now : PlayerValue) (place : ℕ) (olds news : List ReadLog) (out_old out_new output_old output_new : WriteLog) (clean : Bool) : Type 0 where
  pub payloads : List (List ℕ)
  pub count : place ≡ length payloads
  pub read : AreReadInTurn olds news payloads
  pub frames : List Samples
  pub end : Option (List LeftValue)
  pub front : PlaysFront player payloads frames end out_old out_new output_old output_new
  pub goes_on : now ≡ player_value player.recording end
  pub returned : clean ≡ are_clean frames

pub none_played : (player : PlayerValue) (olds : List ReadLog) (out output : WriteLog) → IsPlaying player player 0 olds olds out out output output true
none_played player olds out output = record {
  payloads = [];
  count = refl;
  read = refl;
  frames = [];
  end = player.last;
  front = record { played = refl; wrote = Writes-nil out; printed = Writes-nil output };
  goes_on = refl;
  returned = refl;
}

pub all_played : (player now : PlayerValue) (place : ℕ) (olds news : List ReadLog) (a b c d : WriteLog) (clean : Bool) → place ≡ length olds
    → IsPlaying player now place olds news a b c d clean → PlaysAll player olds news a b c d clean
all_played player now place olds news a b c d clean is so_far = record {
  payloads = so_far.payloads;
  count = sym so_far.count ∙ is;
  read = so_far.read;
  frames = so_far.frames;
  end = so_far.end;
  played = so_far.front.played;
  wrote = so_far.front.wrote;
  printed = so_far.front.printed;
  returned = so_far.returned;
}

-- ---- the next frame

-- what holds before a frame is played, or the first frame
pub kept_or_first : (P : Type 0) (Went : ReadLog → ReadLog → Type 0) (player : PlayerValue) (olds news : List ReadLog) (payloads : List (List ℕ)) (frames : List Samples)
    (end : Option (List LeftValue)) → (0 ≡ length payloads → P) → AreReadUpTo Went olds news payloads → ArePlayed player.recording player.last payloads frames end
    → P ⊎ HasFirstFrame player olds news
kept_or_first P Went player olds news [] frames end kept read played = inl (kept refl)
kept_or_first P Went player olds news (p ∷ ps) frames end kept read played =
    inr (first_up_to Went player olds news (p ∷ ps) frames end (omega arith) read played)

module _ (player now : PlayerValue) (place : ℕ) (olds nows news : List ReadLog) (out_old out_now output_old output_now : WriteLog) (clean : Bool)
    (so_far : IsPlaying player now place olds nows out_old out_now output_old output_now clean) (old new : ReadLog)
    (went : (Went : ReadLog → ReadLog → Type 0) → Went old new → AreReadUpTo Went olds news so_far.payloads) where
  -- it was not
  pub next_stops : (after : PlayerValue) (fault : PlayFault) → PlaysNext place (place + 1) now after (Err fault) old new
      → StopsPlaying player olds news out_old out_now output_old output_now fault
  next_stops after (faults.Read named) (is, unread) = (so_far.payloads, so_far.frames, so_far.end, is ∙ so_far.count, went IsUnread unread, so_far.front)
  next_stops after (faults.Samples named fault) (is, (payload, took, first, other)) = (
    so_far.payloads,
    payload,
    so_far.frames,
    so_far.end,
    is ∙ ap (λ (n : ℕ). n + 1) so_far.count,
    in_turn payload olds news so_far.payloads (went (λ o n. TakesWhole o n payload) took),
    so_far.front,
    subst (λ (p : PlayerValue). IsFirstSamplesFault p.recording p.last payload fault) so_far.goes_on first,
    other,
  )
  next_stops after faults.Memory stopped = (so_far.payloads, so_far.frames, so_far.end, went StopsWithin stopped, so_far.front)
  next_stops after faults.Out stopped = absurd stopped
  next_stops after faults.Output stopped = absurd stopped

  pub next_keeps : (P : Type 0) → (place ≡ 0 → P) → P ⊎ HasFirstFrame player olds news
  next_keeps P kept =
      kept_or_first P (λ _ _. Unit {0}) player olds news so_far.payloads so_far.frames so_far.end (λ e. kept (so_far.count ∙ sym e))
      (went (λ _ _. Unit {0}) tt) so_far.front.played

  module _ (after : PlayerValue) (frame : Samples) (next : PlaysNext place (place + 1) now after (Ok frame) old new) where
    abbrev own_payload : List ℕ
    own_payload = next.0

    abbrev own_left : List LeftValue
    own_left = next.1

    more_payloads : AreReadInTurn olds news (so_far.payloads ++ own_payload ∷ [])
    more_payloads = in_turn own_payload olds news so_far.payloads (went (λ o n. TakesWhole o n own_payload) next.2)

    more_frames : ArePlayed player.recording player.last (so_far.payloads ++ own_payload ∷ []) (so_far.frames ++ frame ∷ []) (Some own_left)
    more_frames =
        ArePlayed-push player.recording player.last so_far.payloads so_far.frames so_far.end own_payload frame own_left so_far.front.played
        (subst (λ (p : PlayerValue). IsPlayedFrame p.recording p.last own_payload frame own_left) so_far.goes_on next.3)

    more_text : frames_text 1 (so_far.frames ++ frame ∷ []) ≡ frames_text 1 so_far.frames ++ frame_text (place + 1) frame
    more_text =
        let same = length-ArePlayed player.recording player.last so_far.payloads so_far.frames so_far.end so_far.front.played in
        frames_text-push 1 so_far.frames frame
        ∙ ap (λ (n : ℕ). frames_text 1 so_far.frames ++ frame_text n frame) (let e : 1 + length so_far.frames ≡ place + 1 = omega (arith, so_far.count, same) in e)

    pub shown_first : HasFirstFrame player olds news
    shown_first =
        first_in_turn player olds news (so_far.payloads ++ own_payload ∷ []) (so_far.frames ++ frame ∷ []) (Some own_left)
        (omega (arith, length-append so_far.payloads (own_payload ∷ []))) more_payloads more_frames

    module _ (out_new output_new : WriteLog) where
      pub shown_stops : (fault : PlayFault) → ShowsFrame (place + 1) frame (Err fault) out_now out_new output_now output_new
          → StopsPlaying player olds news out_old out_new output_old output_new fault
      shown_stops faults.Out (stopped, same) = (
        so_far.payloads ++ own_payload ∷ [],
        so_far.frames,
        frame,
        Some own_left,
        more_payloads,
        more_frames,
        subst (StopsWriting out_old out_new) (sym (frames_bytes-push so_far.frames frame))
            (StopsWriting-after out_old out_now out_new (frames_bytes so_far.frames) (samples_bytes frame) so_far.front.wrote stopped),
        subst (λ (log : WriteLog). Writes output_old log (frames_text 1 so_far.frames)) (sym same) so_far.front.printed,
      )
      shown_stops faults.Output (wrote, stopped) = (
        so_far.payloads ++ own_payload ∷ [],
        so_far.frames ++ frame ∷ [],
        Some own_left,
        more_payloads,
        more_frames,
        subst (Writes out_old out_new) (sym (frames_bytes-push so_far.frames frame))
            (Writes-trans out_old out_now out_new (frames_bytes so_far.frames) (samples_bytes frame) so_far.front.wrote wrote),
        subst (StopsWriting output_old output_new) (sym more_text)
            (StopsWriting-after output_old output_now output_new (frames_text 1 so_far.frames) (frame_text (place + 1) frame) so_far.front.printed stopped),
      )
      shown_stops faults.Memory (same_out, same_output) = (
        so_far.payloads,
        so_far.frames,
        so_far.end,
        went StopsWithin (own_payload, next.2.read, next.2.few),
        record {
          played = so_far.front.played;
          wrote = subst (λ (log : WriteLog). Writes out_old log (frames_bytes so_far.frames)) (sym same_out) so_far.front.wrote;
          printed = subst (λ (log : WriteLog). Writes output_old log (frames_text 1 so_far.frames)) (sym same_output) so_far.front.printed;
        },
      )
      shown_stops (faults.Read named) stopped = absurd stopped
      shown_stops (faults.Samples named fault) stopped = absurd stopped

      pub shown_on : (own : Bool) → ShowsFrame (place + 1) frame (Ok own) out_now out_new output_now output_new
          → IsPlaying player after (place + 1) olds news out_old out_new output_old output_new (clean && own)
      shown_on own (wrote, printed, is) = record {
        payloads = so_far.payloads ++ own_payload ∷ [];
        count = ap (λ (n : ℕ). n + 1) so_far.count ∙ sym (length-append so_far.payloads (own_payload ∷ []));
        read = more_payloads;
        frames = so_far.frames ++ frame ∷ [];
        end = Some own_left;
        front = record {
          played = more_frames;
          wrote = subst (Writes out_old out_new) (sym (frames_bytes-push so_far.frames frame))
              (Writes-trans out_old out_now out_new (frames_bytes so_far.frames) (samples_bytes frame) so_far.front.wrote wrote);
          printed = subst (Writes output_old output_new) (sym more_text)
              (Writes-trans output_old output_now output_new (frames_text 1 so_far.frames) (frame_text (place + 1) frame) so_far.front.printed printed);
        };
        goes_on = next.4 ∙ ap (λ (p : PlayerValue). player_value p.recording (Some own_left)) so_far.goes_on;
        returned = ap (λ (b : Bool). b && own) so_far.returned ∙ ap (λ (b : Bool). are_clean so_far.frames && b) is ∙ sym (are_clean-push so_far.frames frame);
      }
