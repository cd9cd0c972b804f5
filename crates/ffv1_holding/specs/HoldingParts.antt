-- How a holding keeps its contents.
use Rattle.std.specs.Prelude.{◌≡◌}
use Rattle.ffv1_holding.specs.Contents.{Contents, AreEntriesOf, AreHeld, AreOfDigestLength}
use Rattle.ffv1_holding.specs.Reels.{IsReel, reel_tiles}
use Rattle.ffv1_holding.specs.declared.holding.Holding.TheInside.{Inside}

-- the contents of the fields
abbrev pub contents : {S : Type 0} → Inside S → Contents
contents a = record { reel = a.reel; slices = a.held.slices; origins = a.held.origins }

pub record IsKept {S : Type 0} (a : Inside S) : Type 0 where
  pub reel : IsReel a.reel
  pub tiles : a.held.tiles ≡ reel_tiles a.reel
  pub slices : AreEntriesOf a.reel.rules a.held.slices
  pub origins_held : AreHeld a.held.slices a.held.origins
  pub digests_whole : AreOfDigestLength a.held.origins
