-- What `picture --any` shows of a file that commands made of copies of an original: just the original's slices.
use Rattle.std.specs.Prelude.{ℕ, ◌≡◌, ◌↔◌, Bool, true, IsTrue, All, List, [], Option, None, Some}
use Rattle.std.specs.Io.KnownBytes.{Appends}
use Rattle.ffv1_bits.specs.Parity.{AreBytes}
use Rattle.ffv1_range.specs.Setup.{RecordingValue, IsRecordingOf}
use Rattle.ffv1_slice.specs.Slices.{IsOriginal}
use Rattle.ffv1_holding.specs.Reels.{Reel}
use Rattle.ffv1_holding.specs.Originals.{AreCopiesOfSlices, AreNear}
use Rattle.ffv1_holding.specs.declared.recordings.Recordings.TheVariants.{Any}
use Rattle.ffv1_player.specs.Frames.{LeftValue, IsPlayedFrame}
use Rattle.ffv1_player.specs.ShownSlices.{ShowsEachSlice}
use Rattle.ffv1_player.specs.Written.{samples_bytes}
use Rattle.ffv1_player.specs.declared.samples.Samples.{Samples}
use Rattle.ffv1_player.specs.declared.shown.Shown.{Shown}
use Rattle.ffv1_commands.specs.TakenFrames.{IsTakenReel}
use Rattle.ffv1_commands.specs.AnyPictureText.{shown_samples, IsWholeShown, ShowsAnyFile, AnyPictureStops}
use Rattle.ffv1_commands.specs.PictureText.{ShowsFile}
use Rattle.ffv1_commands.specs.Commands.{IsMadeOf, IsNoFaultOfBytes}
use Rattle.ffv1_commands.specs.declared.fault.CliFault.{CliFault}

-- What is shown of a file is what these slices give, one of each tile: where `picture --any` returns Ok, it wrote the samples of what is shown
-- of them, and it returns whether each is decoded and ends as an encoder ends it; where it is refused, an input was not read, an output not
-- written, or memory ran out.
pub record ShowsAnyOnly (reel : Reel) (file : List ℕ) (slices : List (List ℕ)) : Type 0 where
  pub written : (out_before out_after printed_before printed_after : Option (List ℕ)) (whole : Bool)
      → ShowsAnyFile (Some file) out_before out_after printed_before printed_after whole
      → (shown : Shown) × ShowsEachSlice reel slices shown × Appends out_before out_after (shown_samples shown) × (IsTrue whole ↔ IsWholeShown shown)
  pub refused : (out_before out_after printed_before printed_after : Option (List ℕ)) (fault : CliFault)
      → AnyPictureStops (Some file) out_before out_after printed_before printed_after fault → IsNoFaultOfBytes fault

-- ---- laws

-- Where every slice found in the copies is the original's for its tile, and each tile's is found in some copy, each tile that is shown is the
-- picture of the original's slice, and none is shown where the frame is no keyframe.
abbrev pub AnyPictureShowsTheOriginal : Type 0
AnyPictureShowsTheOriginal =
    (config : List ℕ) (width height : ℕ) (reel : Reel) (copies : List (List ℕ)) (file original : List ℕ) (slices : List (List ℕ))
    → IsTakenReel Any config width height reel → IsMadeOf Any config width height copies file
    → IsOriginal reel.rules original slices → AreCopiesOfSlices reel.rules slices copies
    → ShowsAnyOnly reel file slices

-- So it is where each copy is near the original, and each of its slices is intact in one of them.
abbrev pub AnyPictureShowsNearCopies : Type 0
AnyPictureShowsNearCopies =
    (config : List ℕ) (width height : ℕ) (reel : Reel) (copies : List (List ℕ)) (file original : List ℕ) (slices : List (List ℕ))
    → IsTakenReel Any config width height reel → IsMadeOf Any config width height copies file
    → AreNear reel.rules original slices copies
    → ShowsAnyOnly reel file slices

-- Where the original is a frame to a player after none, and so a keyframe, the samples that are written are those of that frame, and `picture --any`
-- returns whether each of its slices ends as an encoder ends it.
abbrev pub AnyPictureShowsTheKeyframe : Type 0
AnyPictureShowsTheKeyframe =
    (config : List ℕ) (width height : ℕ) (reel : Reel) (copies : List (List ℕ)) (file original : List ℕ) (slices : List (List ℕ))
    → IsTakenReel Any config width height reel → IsMadeOf Any config width height copies file
    → IsOriginal reel.rules original slices → AreCopiesOfSlices reel.rules slices copies
    → (r : RecordingValue) (frame : Samples) (left : List LeftValue) → IsRecordingOf config width height r → IsPlayedFrame r None original frame left
    → (out_before out_after printed_before printed_after : Option (List ℕ)) (whole : Bool)
    → ShowsAnyFile (Some file) out_before out_after printed_before printed_after whole
    → Appends out_before out_after (samples_bytes frame) × (IsTrue whole ↔ All (λ end. end.is_clean ≡ true) frame.slices.items)

-- Of one holding file of the profile `picture` and `picture --any` write the same bytes.
abbrev pub PicturesAreAlike : Type 0
PicturesAreAlike =
    (file one other : List ℕ) (printed_before printed_after more_before more_after : Option (List ℕ)) (whole all : Bool) → AreBytes one
    → ShowsFile (Some file) (Some []) (Some one) printed_before printed_after whole
    → ShowsAnyFile (Some file) (Some []) (Some other) more_before more_after all → one ≡ other
