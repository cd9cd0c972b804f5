-- The union of two holdings of one record and size, in whatever frames.
use Rattle.std.specs.Prelude.{◌≡◌, if◌then◌else◌}
use Rattle.ffv1_range.specs.declared.frames.Frames.TheVariants.{Any}
use Rattle.ffv1_holding.specs.Reels.{Reel, in_frames}
use Rattle.ffv1_holding.specs.Contents.{Contents, with_reel, joined}

-- one record, width and height: in any frames they are one
abbrev pub AreOfOneRecord : Reel → Reel → Type 0
AreOfOneRecord a b = in_frames Any a ≡ in_frames Any b

-- the frames of both are any where those of one are
abbrev pub reel_of_both : Reel → Reel → Reel
reel_of_both a b = if b.rules.is_profile then a else b

-- the slices and origins of both, in the frames of both
abbrev pub united : Contents → Contents → Contents
united a b = with_reel (joined a b) (reel_of_both a.reel b.reel)
