-- Slices whose bytes lie in one block of memory, and the entries that say where.
use Rattle.std.specs.Prelude.{◌≡◌, ℕ, ◌+◌, ◌<◌, ◌≤◌, List, length, take, drop, map, slice_index_or}
use Rattle.ffv1_slice.specs.Chain.{IsFramed}
use Rattle.ffv1_holding.specs.SliceOrder.{Entry, entry_cmp, bytes_cmp}
use Rattle.ffv1_holding.specs.Rising.{IsRising}
use Rattle.ffv1_holding.specs.declared.pool_entry.PoolEntry.{PoolEntry}

-- the slice of an entry
abbrev pub slice_in : List ℕ → PoolEntry → List ℕ
slice_in bytes e = take e.length (drop e.start bytes)

-- with its tile
abbrev pub entry_in : List ℕ → PoolEntry → Entry
entry_in bytes e = (e.tile, slice_in bytes e)

-- An entry lies within the bytes, and its slice has its footer.
pub record IsEntryIn (bytes : List ℕ) (e : PoolEntry) : Type 0 where
  pub within : e.start + e.length ≤ length bytes
  pub framed : IsFramed (slice_in bytes e)

abbrev pub AreEntriesIn : List ℕ → List PoolEntry → Type 0
AreEntriesIn bytes entries = (i : ℕ) (d : PoolEntry) → i < length entries → IsEntryIn bytes (slice_index_or entries i d)

-- entries that rise by tile, and then by bytes
pub record IsPool (bytes : List ℕ) (entries : List PoolEntry) : Type 0 where
  pub each : AreEntriesIn bytes entries
  pub rising : IsRising entry_cmp (map (entry_in bytes) entries)

-- The entries from place a up to b are those of a tile.
pub record IsTilePart (entries : List PoolEntry) (tile a b : ℕ) : Type 0 where
  pub starts : a ≤ b
  pub ends : b ≤ length entries
  pub before : (i : ℕ) (d : PoolEntry) → i < a → (slice_index_or entries i d).tile < tile
  pub here : (i : ℕ) (d : PoolEntry) → a ≤ i → i < b → (slice_index_or entries i d).tile ≡ tile
  pub after : (i : ℕ) (d : PoolEntry) → b ≤ i → i < length entries → tile < (slice_index_or entries i d).tile

-- entries of one tile, which rise by bytes
pub record IsShelf (bytes : List ℕ) (entries : List PoolEntry) : Type 0 where
  pub each : AreEntriesIn bytes entries
  pub rising : IsRising bytes_cmp (map (slice_in bytes) entries)
