-- Slices that come to others, and how their entries go among those that are there.
use Rattle.std.specs.Prelude.{◌≡◌, ℕ, ◌<◌, List, [], ◌∷◌, ◌++◌, length, map, slice_index_or}
use Rattle.std.specs.List.{insert}
use Rattle.std.specs.declared.cmp.Ordering.{Ordering}
use Rattle.ffv1_holding.specs.SliceOrder.{Entry, entry_cmp}
use Rattle.ffv1_holding.specs.Sets as set
use Rattle.ffv1_holding.specs.Rising.{IsRising}
use Rattle.ffv1_holding.specs.Inner.Rising.{IsInsertionPlace}
use Rattle.ffv1_holding.specs.Inner.PoolEntries.{entry_in, IsEntryIn}
use Rattle.ffv1_holding.specs.declared.pool_entry.PoolEntry.{PoolEntry}
use Rattle.ffv1_holding.specs.declared.fresh.Fresh.{Fresh}

-- the slice of a new entry, with its tile
abbrev pub fresh_in : List ℕ → Fresh PoolEntry → Entry
fresh_in bytes f = entry_in bytes f.item

-- New entries lie in the bytes, rise, and each goes before its place among those that are held.
pub record AreFresh (held : List Entry) (bytes : List ℕ) (fresh : List (Fresh PoolEntry)) : Type 0 where
  pub each : (i : ℕ) (d : Fresh PoolEntry) → i < length fresh → IsEntryIn bytes (slice_index_or fresh i d).item
  pub gaps : (i : ℕ) (d : Fresh PoolEntry) → i < length fresh
      → IsInsertionPlace entry_cmp held (fresh_in bytes (slice_index_or fresh i d)) (slice_index_or fresh i d).place
  pub rising : IsRising entry_cmp (map (fresh_in bytes) fresh)

-- Held together with the new ones, they are all that is held or comes.
abbrev pub AreAllFresh : {K : Type 0} → (K → K → Ordering) → List K → List K → List K → Type 0
AreAllFresh R held coming fresh = set.union (set.from_list {R = R} held) (set.from_list fresh) ≡ set.union (set.from_list held) (set.from_list coming)

-- Each entry lies in other bytes now, with the same slice and place.
pub record IsMoved (from bytes : List ℕ) (old new : Fresh PoolEntry) : Type 0 where
  pub lies : IsEntryIn bytes new.item
  pub same : fresh_in bytes new ≡ fresh_in from old
  pub place : new.place ≡ old.place

-- Bytes came after those that were there, and the new entries lie in them all.
pub record AreMoved (from old_bytes bytes : List ℕ) (old new : List (Fresh PoolEntry)) : Type 0 where
  pub more : List ℕ
  pub later : bytes ≡ old_bytes ++ more
  pub long : length new ≡ length old
  pub each : (i : ℕ) (d : Fresh PoolEntry) → i < length old → IsMoved from bytes (slice_index_or old i d) (slice_index_or new i d)

-- items put into a list, each at its place among those that the list had
abbrev pub with_inserted : {F X : Type 0} → (F → ℕ) → (F → X) → List F → List X → List X
with_inserted place item [] xs = xs
with_inserted place item (f ∷ fs) xs = insert (with_inserted place item fs xs) (place f) (item f)

abbrev pub with_fresh : {X : Type 0} → List (Fresh X) → List X → List X
with_fresh = with_inserted (λ f. f.place) (λ f. f.item)
