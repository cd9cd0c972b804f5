-- Of which frames a command takes slices, and by which rules it files them: of any recording a slice may be of a frame between keyframes.
use Rattle.std.specs.Prelude.{ℕ, ◌≡◌, ◌⊎◌, List}
use Rattle.ffv1_range.specs.declared.frames.Frames.{Frames}
use Rattle.ffv1_range.specs.declared.frames.Frames.TheVariants as frames
use Rattle.ffv1_holding.specs.Reels.{Reel, IsOwnReel, in_frames}
use Rattle.ffv1_holding.specs.Contents.{Contents, with_reel, AreOwnEntries}
use Rattle.ffv1_holding.specs.declared.recordings.Recordings.{Recordings}
use Rattle.ffv1_holding.specs.declared.recordings.Recordings.TheVariants.{Profile, Any}
use Rattle.ffv1_hold.specs.Headline.{IsReelOf}

-- those that the record's own rules allow, or all
abbrev pub frames_of : Recordings → Frames
frames_of Profile = frames.Ruled
frames_of Any = frames.Any

-- the same recording, with slices of these frames
abbrev pub in_taken_frames : Recordings → Reel → Reel
in_taken_frames recordings reel = in_frames (frames_of recordings) reel

-- the same slices and origins, held as slices of these frames
abbrev pub as_taken : Recordings → Contents → Contents
as_taken recordings h = with_reel h (in_taken_frames recordings h.reel)

-- the reel of a record and a size, with slices of these frames
abbrev pub IsTakenReel : Recordings → List ℕ → ℕ → ℕ → Reel → Type 0
IsTakenReel recordings config width height reel =
    (own : Reel) × IsReelOf recordings config width height own × (reel ≡ in_taken_frames recordings own)

-- A holding as it is filed: by its record's own rules where each slice is one by these, and else as it is.
abbrev pub IsFiled : Contents → Contents → Type 0
IsFiled h filed = (AreOwnEntries h × IsOwnReel filed.reel h.reel × (filed ≡ with_reel h filed.reel)) ⊎ ((¬ AreOwnEntries h) × (filed ≡ h))
