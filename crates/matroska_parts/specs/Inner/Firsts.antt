-- The first Tracks of a file, and where it begins.
use Rattle.std.specs.Prelude.{ℕ, ◌≡◌, Option, option_map}
use Rattle.matroska_parts.specs.ItemParts.{PlacedContent}
use Rattle.matroska_parts.specs.declared.files.FirstTracks.{FirstTracks}

abbrev pub found_of : Option FirstTracks → Option PlacedContent
found_of first = option_map (λ it. record { place = it.place; content = it.content.now }) first

-- where a Tracks begins
abbrev pub SaysWhere : Option ℕ → Option PlacedContent → Type 0
SaysWhere first found = first ≡ option_map (λ it. it.place) found
