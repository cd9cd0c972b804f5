-- The tracks of a file, with what is known of each.
use Rattle.matroska_parts.specs.declared.file_tracks.FileTracks.{FileTracks}
use Rattle.matroska_parts.specs.Facts.{EachHasFacts}

abbrev pub HasFacts : FileTracks → Type 0
HasFacts file = EachHasFacts file.named.tracks.items file.facts.items
