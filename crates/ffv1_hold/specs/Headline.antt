-- However the same copies are ordered, grouped or repeated, the holdings are equal, and so is all that is a function of a holding.
use Rattle.std.specs.Prelude.{◌≡◌, ℕ, List}
use Rattle.ffv1_range.specs.Setup.{RecordingValue}
use Rattle.ffv1_holding.specs.declared.recordings.Recordings.{Recordings}
use Rattle.ffv1_holding.specs.Reels.{Reel, IsRecordingFor, reel_of}
use Rattle.ffv1_holding.specs.Contents.{Contents, holding_of, HasSameCopies}

-- the reel of a record and a size
abbrev pub IsReelOf : Recordings → List ℕ → ℕ → ℕ → Reel → Type 0
IsReelOf recordings config width height reel =
    (recording : RecordingValue) × IsRecordingFor recordings config width height recording × (reel ≡ reel_of config recording)

-- two holdings of one record and size, whose copies are the same, are equal
abbrev pub SameCopiesAreEqual : Type 0
SameCopiesAreEqual =
    (recordings : Recordings) (config : List ℕ) (width height : ℕ) (a b : Contents) (copies others : List (List ℕ))
    → IsReelOf recordings config width height a.reel → IsReelOf recordings config width height b.reel
    → a ≡ holding_of a.reel copies → b ≡ holding_of b.reel others
    → HasSameCopies copies others → a ≡ b
