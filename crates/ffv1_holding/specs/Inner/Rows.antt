-- Which copies gave which slices: rows of the entry of a slice, the owner, and the digest of a copy.
use Rattle.std.specs.Prelude.{◌≡◌, ℕ, ◌<◌, ◌≤◌, List, length, map, slice_index_or}
use Rattle.std.specs.List.{zip}
use Rattle.std.specs.declared.cmp.Ordering.TheVariants.{Less, Greater}
use Rattle.ffv1_holding.specs.SliceOrder.{Entry, Origin, entry_cmp, origin_cmp}
use Rattle.ffv1_holding.specs.Rising.{IsRising}
use Rattle.ffv1_holding.specs.Inner.Rising.{IsInsertionPlace}
use Rattle.ffv1_holding.specs.Inner.PoolEntries.{entry_in, AreEntriesIn, IsPool}
use Rattle.ffv1_holding.specs.Inner.Fresh.{IsMoved}
use Rattle.ffv1_holding.specs.declared.pool_entry.PoolEntry.{PoolEntry}
use Rattle.ffv1_holding.specs.declared.fresh.Fresh.{Fresh}
use Rattle.ffv1_holding.specs.declared.rows.Rows.{Rows}

-- the slice of each owner, with the digest that stands at its place
abbrev pub rows_in : List ℕ → List PoolEntry → List (List ℕ) → List Origin
rows_in bytes owners digests = map (λ row. (entry_in bytes row.0, row.1)) (zip owners digests)

-- owners with as many digests: rows that rise by the owner's slice, and then by digest
pub record IsRows (bytes : List ℕ) (owners : List PoolEntry) (digests : List (List ℕ)) : Type 0 where
  pub long : length digests ≡ length owners
  pub each : AreEntriesIn bytes owners
  pub rising : IsRising origin_cmp (rows_in bytes owners digests)

-- the rows that were lent
abbrev pub rows_of : Rows → List Origin
rows_of r = rows_in r.bytes.now r.owners.now r.digests.now

abbrev pub AreRows : Rows → Type 0
AreRows r = IsRows r.bytes.now r.owners.now r.digests.now

-- entries that rise, and rows of owners and digests in the same bytes
pub record IsStock (bytes : List ℕ) (entries owners : List PoolEntry) (digests : List (List ℕ)) : Type 0 where
  pub pool : IsPool bytes entries
  pub rows : IsRows bytes owners digests

-- The rows from place a up to b are those of a slice.
pub record IsRowPart (bytes : List ℕ) (owners : List PoolEntry) (e : Entry) (a b : ℕ) : Type 0 where
  pub starts : a ≤ b
  pub ends : b ≤ length owners
  pub before : (i : ℕ) (d : PoolEntry) → i < a → entry_cmp (entry_in bytes (slice_index_or owners i d)) e ≡ Less
  pub here : (i : ℕ) (d : PoolEntry) → a ≤ i → i < b → entry_in bytes (slice_index_or owners i d) ≡ e
  pub after : (i : ℕ) (d : PoolEntry) → b ≤ i → i < length owners → entry_cmp (entry_in bytes (slice_index_or owners i d)) e ≡ Greater

-- a new row: its owner, and its digest
abbrev pub FreshRow : Type 0
FreshRow = Fresh PoolEntry × Fresh (List ℕ)

abbrev pub fresh_origin : List ℕ → FreshRow → Origin
fresh_origin bytes f = (entry_in bytes f.0.item, f.1.item)

abbrev pub fresh_rows_in : List ℕ → List (Fresh PoolEntry) → List (Fresh (List ℕ)) → List Origin
fresh_rows_in bytes owners digests = map (fresh_origin bytes) (zip owners digests)

-- New rows have owners in the bytes, rise, and each goes before its place among those that are held.
pub record AreFreshRows (held : List Origin) (bytes : List ℕ) (owners : List (Fresh PoolEntry)) (digests : List (Fresh (List ℕ))) : Type 0 where
  pub places : map (λ f. f.place) digests ≡ map (λ f. f.place) owners
  pub gaps : (i : ℕ) (d : FreshRow) → i < length (zip owners digests)
      → IsInsertionPlace origin_cmp held (fresh_origin bytes (slice_index_or (zip owners digests) i d)) (slice_index_or (zip owners digests) i d).0.place
  pub rising : IsRising origin_cmp (fresh_rows_in bytes owners digests)

-- Each owner is the entry of the same slice in other bytes now.
pub record AreOwnersMoved (from bytes : List ℕ) (old new : List (Fresh PoolEntry)) : Type 0 where
  pub long : length new ≡ length old
  pub each : (i : ℕ) (d : Fresh PoolEntry) → i < length old → IsMoved from bytes (slice_index_or old i d) (slice_index_or new i d)
