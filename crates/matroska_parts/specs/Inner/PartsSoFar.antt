-- The parts of the items that a pass over a file has gone past.
use Rattle.std.specs.Prelude.{ℕ, ◌≡◌, List, Option, take, drop}
use Rattle.ebml.specs.Items.{ItemValue, AreItems, bytes_of_items, EachBefore}
use Rattle.matroska.specs.declared.track.Track.{Track}
use Rattle.matroska_parts.specs.declared.parts.Part.{Part}
use Rattle.matroska_parts.specs.ItemParts.{PlacedContent, first_tracks, AreItemParts}

pub record PartsSoFar (found : Option PlacedContent) (tracks : List Track) (file : List ℕ) (place : ℕ) (parts : List Part) : Type 0 where
  pub items : List ItemValue
  pub joined : take place file ≡ bytes_of_items items
  pub each : EachBefore items (drop place file)
  pub have : AreItemParts found tracks 0 items parts

-- the first Tracks of a file is that of the items that are left
abbrev pub IsFirstOfRest : List ℕ → ℕ → Type 0
IsFirstOfRest file place =
    (items : List ItemValue) → AreItems file items → (left : List ItemValue) × AreItems (drop place file) left × (first_tracks 0 items ≡ first_tracks place left)
