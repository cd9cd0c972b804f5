-- How far a holding file is written, and that its parts are within their limits.
use Rattle.std.specs.Prelude.{ℕ, ◌≡◌, ◌+◌, ◌*◌, ◌<◌, ◌≤◌, true, List, [], ◌∷◌, length, map, slice_index_or}
use Rattle.ffv1_bits.specs.Limits.{slice_limit}
use Rattle.ffv1_holding.specs.SliceOrder.{Entry, bytes_cmp}
use Rattle.ffv1_holding.specs.Sets as set
use Rattle.ffv1_holding.specs.Reels.{reel_tiles}
use Rattle.ffv1_holding.specs.Contents.{Contents, digests_of}
use Rattle.ffv1_holding.specs.Inner.TileSets.{tile_entries, entries_below}
use Rattle.ffv1_hold.specs.HoldingText.{FileEntry}

-- no slice passes its limit
abbrev pub AreWithinLimit : set.SetOf bytes_cmp → Type 0
AreWithinLimit slices = (i : ℕ) (d : List ℕ) → i < set.size slices → length (slice_index_or (set.items slices) i d) ≤ slice_limit

-- the tiles' numbers take two bytes, each slice is of one of them, and none passes its limit
pub record AreWritable (h : Contents) : Type 0 where
  pub few : reel_tiles h.reel ≤ 65536
  pub tile : (e : Entry) → set.contains h.slices e ≡ true → e.0 < reel_tiles h.reel
  pub fits : (e : Entry) → set.contains h.slices e ≡ true → length e.1 ≤ slice_limit

-- the entries of one tile, with their digests
abbrev pub tile_file_entries : Contents → ℕ → List FileEntry
tile_file_entries h tile = map (λ e. (e, digests_of h e)) (tile_entries h.slices tile)

-- the entries of the tiles below a number
abbrev pub file_entries_below : Contents → ℕ → List FileEntry
file_entries_below h n = map (λ e. (e, digests_of h e)) (entries_below h.slices n)

-- the length of the text of entries: a tag, a tile, a length, the bytes, a count and the digests of each
abbrev pub entries_length : List FileEntry → ℕ
entries_length [] = 0
entries_length (e ∷ es) = 11 + length e.0.1 + 32 * length e.1 + entries_length es
