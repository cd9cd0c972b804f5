-- Payloads of tracks of FLAC.
use Rattle.std.specs.Prelude.{ℕ, List}
use Rattle.std.specs.List.{AllByRecursion}
use Rattle.flac_frame.specs.Frame.{PassesFlac}
use Rattle.matroska.specs.Laces.{AreFrames}
use Rattle.matroska.specs.declared.block.Lacing.{Lacing}

-- each frame of the payload is one of FLAC, with both checks right
abbrev pub IsRightFlac : Lacing → List ℕ → Type 0
IsRightFlac lacing payload = (frames : List (List ℕ)) × AreFrames lacing payload frames × AllByRecursion PassesFlac frames
