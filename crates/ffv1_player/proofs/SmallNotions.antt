-- What a player decodes, frame after frame, is said so by the small definitions too.
use Rattle.std.proofs.Common.{◌≡◌, ℕ, List, [], ◌∷◌, map, sym, ap, ◌∙◌, subst, inl, inr, arith}
use Rattle.std.specs.Prelude.{Option, Some, None}
use Rattle.std.specs.Option.{option_map}
use Rattle.std.proofs.lemmas.Option.{none-some, same_Some, slice_get-map, slice_get_cases}
use Rattle.ffv1_range.specs.Setup.{RecordingValue, IsInVersion3}
use Rattle.ffv1_range.proofs.SetupLaws.{recording_is_in_version_3}
use Rattle.ffv1_samples.specs.States.{FitSlice}
use Rattle.ffv1_samples.specs.Slices.{SlicePictureValue}
use Rattle.ffv1_player.specs.Frames.{LeftValue, left_by, IsPlayedFrame}
use Rattle.ffv1_player.specs.Fitting.{FitLeft, FitLast}
use Rattle.ffv1_player.specs.Played.{ArePlayed}
use Rattle.ffv1_player.specs.SmallFrames.{AreFramesInTurn}
use Rattle.ffv1_player.specs.SmallNotions.{PlayedAreFrames, DecodedIsFrame}
use Rattle.ffv1_player.specs.declared.samples.Samples.{Samples}
use Rattle.ffv1_player.proofs.ProfileFrames.{frame_is_played}
use Rattle.ffv1_player.proofs.SmallFrames.{frame_to}

module _ (r : RecordingValue) (last : Option (List LeftValue)) (payload : List ℕ) (frame : Samples) (left : List LeftValue)
    (h : IsPlayedFrame r last payload frame left) where
  fit_pictures : FitLeft r (map left_by h.pictures)
  fit_pictures place slice at = elim (slice_get_cases h.pictures place).1 [
    | inl some ↦
        let d : SlicePictureValue = some.0 in
        let same : left_by d ≡ slice =
        same_Some (left_by d) slice (sym (slice_get-map left_by h.pictures place ∙ ap (option_map left_by) some.2) ∙ at) in
        let picture = h.have.1 place d (omega (arith, some.1, h.have.0)) in
        subst (λ (s : LeftValue). FitSlice r s.header.tables s.states) same
        (subst (λ (s : SlicePictureValue). FitSlice r s.header.tables s.states) some.3 picture.fit)
    | inr none ↦
        absurd (none-some slice (sym (slice_get-map left_by h.pictures place ∙ ap (option_map left_by) none.1) ∙ at))
  ]

  -- what a frame leaves fits the next
  fit_played : FitLeft r left
  fit_played = subst (FitLeft r) (sym h.is_left) fit_pictures

frames_of : (r : RecordingValue) → IsInVersion3 r → (last : Option (List LeftValue)) → FitLast r last → (payloads : List (List ℕ)) (frames : List Samples)
    (end : Option (List LeftValue)) → ArePlayed r last payloads frames end → AreFramesInTurn r last payloads frames
frames_of r version last fit [] [] end h = tt
frames_of r version last fit (payload ∷ payloads) (frame ∷ frames) end h = (
  h.0,
  frame_to r version last fit payload frame h.0 h.1,
  frames_of r version (Some h.0) (fit_played r last payload frame h.0 h.1) payloads frames end h.2,
)
frames_of r version last fit [] (frame ∷ frames) end h = absurd h
frames_of r version last fit (payload ∷ payloads) [] end h = absurd h

-- ---- the laws

pub played_are_frames : PlayedAreFrames
played_are_frames config width height r payloads frames end is h =
    frames_of r (recording_is_in_version_3 config width height r is) None tt payloads frames end h

pub decoded_is_frame : DecodedIsFrame
decoded_is_frame config width height setup r payload frame s is h =
    let played = frame_is_played config width height setup r None payload frame s is h in (
      played.0,
      played.1,
      frame_to r (recording_is_in_version_3 config width height r is) None tt payload played.0 played.1 played.2,
      played.3,
    )
