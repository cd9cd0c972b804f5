-- A pool's rows with new ones among them, over bytes that have grown.
use Rattle.std.proofs.Common.{◌≡◌, ℕ, ◌<◌, true, ◌≤◌, List, [], ◌++◌, length, map, get_or, sym, ap, subst, ◌∙◌, arith}
use Rattle.std.specs.List.{zip}
use Rattle.std.specs.List.Sorted.{IsNonDecreasingBy}
use Rattle.std.proofs.lemmas.List.{same_lists, length-map, get_or-map}
use Rattle.std.proofs.lemmas.Slice.Zip.{length-zip, get_or-zip}
use Rattle.ffv1_holding.specs.SliceOrder.{Origin, entry_cmp, origin_cmp, origins_total, origins_antisymmetric}
use Rattle.ffv1_holding.specs.Sets as set
use Rattle.ffv1_holding.specs.Rising.{IsRising}
use Rattle.ffv1_holding.specs.Inner.Rising.{IsInsertionPlace}
use Rattle.ffv1_holding.specs.Contents.{AreHeld}
use Rattle.ffv1_holding.specs.Inner.PoolEntries.{entry_in, IsEntryIn, AreEntriesIn}
use Rattle.ffv1_holding.specs.Inner.Fresh.{with_inserted, with_fresh}
use Rattle.ffv1_holding.specs.Inner.Rows.{rows_in, IsRows, FreshRow, fresh_origin, fresh_rows_in, AreFreshRows, AreOwnersMoved}
use Rattle.ffv1_holding.specs.declared.pool_entry.PoolEntry.{PoolEntry}
use Rattle.ffv1_holding.specs.declared.fresh.Fresh.{Fresh}
use Rattle.ffv1_holding.proofs.EntrySteps.{contains_listed}
use Rattle.ffv1_holding.proofs.Pools.{entries_kept, each_kept}
use Rattle.ffv1_holding.proofs.Insertions.{places_rise, rising-with_inserted, from_list-with_inserted, map-with_inserted, each-with_inserted}
use Rattle.ffv1_holding.proofs.ZipLists.{zip-map, length-with_fresh, zip-with_fresh}

some_fresh : Fresh PoolEntry
some_fresh = record { place = 0; item = record { tile = 0; start = 0; length = 0 } }

some_digest : Fresh (List ℕ)
some_digest = record { place = 0; item = [] }

-- owners that were settled through a borrow are those that it lent
pub settled_of : (from bytes : List ℕ) (lent old new : List (Fresh PoolEntry)) → lent ≡ old → AreOwnersMoved from bytes lent new → AreOwnersMoved from bytes old new
settled_of from bytes lent old new same is = rw (← same) is

-- bytes after those of the pool change no row
module _ (bytes : List ℕ) (os : List PoolEntry) (ds : List (List ℕ)) (rows : IsRows bytes os ds) (next : List ℕ)
    (later : (more : List ℕ) × (next ≡ bytes ++ more)) where
  owners_after : AreEntriesIn next os
  owners_after = subst (λ b. AreEntriesIn b os) (sym later.1) (each_kept bytes later.0 os rows.each)

  pub rows_after : rows_in next os ds ≡ rows_in bytes os ds
  rows_after =
      zip-map (entry_in next) os ds
      ∙ ap (λ xs. zip xs ds) (ap (λ b. map (entry_in b) os) later.1 ∙ entries_kept bytes later.0 os rows.each)
      ∙ sym (zip-map (entry_in bytes) os ds)

  pub rows_kept : IsRows next os ds
  rows_kept = record { long = rows.long; each = owners_after; rising = subst (IsRising origin_cmp) (sym rows_after) rows.rising }

module _ (next : List ℕ) (os : List PoolEntry) (ds : List (List ℕ)) (rows : IsRows next os ds) (from : List ℕ) (old new : List (Fresh PoolEntry))
    (digests : List (Fresh (List ℕ))) (fresh : AreFreshRows (rows_in next os ds) from old digests) (settled : AreOwnersMoved from next old new) where
  abbrev held : List Origin
  held = rows_in next os ds

  digests_long : length digests ≡ length old
  digests_long = omega (arith, ap length fresh.places, length-map digests (λ f. f.place), length-map old (λ f. f.place))

  places_kept : map (λ f. f.place) digests ≡ map (λ f. f.place) new
  places_kept =
      let was = length-map old (λ f. f.place) in
      let is = length-map new (λ f. f.place) in
      fresh.places ∙ same_lists (map (λ f. f.place) old) (map (λ f. f.place) new) (omega (arith, settled.long))
      (λ i d lt. get_or-map (λ f. f.place) old i some_fresh d (omega arith) ∙ sym (settled.each i some_fresh (omega arith)).place
      ∙ sym (get_or-map (λ f. f.place) new i some_fresh d (omega (arith, settled.long))))

  both_at : (i : ℕ) (d : FreshRow) → i < length old → get_or (zip new digests) i d ≡ (get_or new i d.0, get_or digests i d.1)
  both_at i d lt = get_or-zip new digests i d (omega (arith, settled.long)) (omega (arith, digests_long))

  old_at : (i : ℕ) (d : FreshRow) → i < length old → get_or (zip old digests) i d ≡ (get_or old i d.0, get_or digests i d.1)
  old_at i d lt = get_or-zip old digests i d lt (omega (arith, digests_long))

  row_same : (i : ℕ) (d : FreshRow) → i < length old → fresh_origin next (get_or (zip new digests) i d) ≡ fresh_origin from (get_or (zip old digests) i d)
  row_same i d lt =
      let is = (settled.each i d.0 lt).same in
      ap (fresh_origin next) (both_at i d lt) ∙ (λ k. (is k, (get_or digests i d.1).item)) ∙ sym (ap (fresh_origin from) (old_at i d lt))

  old_long : length (zip old digests) ≡ length old
  old_long = omega (arith, length-zip old digests, digests_long)

  new_long : length (zip new digests) ≡ length old
  new_long = omega (arith, length-zip new digests, digests_long, settled.long)

  fresh_same : fresh_rows_in next new digests ≡ fresh_rows_in from old digests
  fresh_same =
      let some : FreshRow = (some_fresh, some_digest) in
      let is = length-map (zip new digests) (fresh_origin next) in
      let was = length-map (zip old digests) (fresh_origin from) in
      same_lists (fresh_rows_in next new digests) (fresh_rows_in from old digests) (omega (arith, old_long, new_long))
      (λ i d lt. get_or-map (fresh_origin next) (zip new digests) i some d (omega arith) ∙ row_same i some (omega (arith, new_long))
      ∙ sym (get_or-map (fresh_origin from) (zip old digests) i some d (omega (arith, old_long, new_long))))

  gaps : (i : ℕ) (d : FreshRow) → i < length (zip new digests)
      → IsInsertionPlace origin_cmp held (fresh_origin next (get_or (zip new digests) i d)) (get_or (zip new digests) i d).0.place
  gaps i d lt =
      let in_old : i < length old = omega (arith, new_long) in
      let place : (get_or (zip new digests) i d).0.place ≡ (get_or (zip old digests) i d).0.place =
      ap (λ (f : FreshRow). f.0.place) (both_at i d in_old) ∙ (settled.each i d.0 in_old).place ∙ sym (ap (λ (f : FreshRow). f.0.place) (old_at i d in_old)) in
      rw (row_same i d in_old, place) (fresh.gaps i d (omega (arith, old_long)))

  rising : IsRising origin_cmp (fresh_rows_in next new digests)
  rising = subst (IsRising origin_cmp) (sym fresh_same) fresh.rising

  held_long : length held ≡ length os
  held_long = omega (arith, length-map (zip os ds) (λ row. let o : Origin = (entry_in next row.0, row.1) in o), length-zip os ds, rows.long)

  pub owners_within : (i : ℕ) (d : Fresh PoolEntry) → i < length new → (get_or new i d).place ≤ length os
  owners_within i d lt =
      let in_old : i < length old = omega (arith, settled.long) in
      let le = (gaps i (d, some_digest) (omega (arith, new_long))).in_range in
      let at = ap (λ (f : FreshRow). f.0.place) (both_at i (d, some_digest) in_old) in
      omega (arith, held_long)

  rise : IsNonDecreasingBy (λ (f : FreshRow). f.0.place) (zip new digests)
  rise = places_rise origins_total (λ (f : FreshRow). f.0.place) (fresh_origin next) held (zip new digests) gaps rising

  pub owners_in_order : IsNonDecreasingBy (λ (f : Fresh PoolEntry). f.place) new
  owners_in_order i j d le lt =
      let in_old : j < length old = omega (arith, settled.long) in
      let at_i = ap (λ (f : FreshRow). f.0.place) (both_at i (d, some_digest) (omega arith)) in
      let at_j = ap (λ (f : FreshRow). f.0.place) (both_at j (d, some_digest) in_old) in
      let is = rise i j (d, some_digest) le (omega (arith, new_long)) in
      omega arith

  -- each digest goes to its owner's place
  digest_place : (i : ℕ) (d : Fresh (List ℕ)) → i < length digests → (get_or digests i d).place ≡ (get_or new i some_fresh).place
  digest_place i d lt =
      sym (get_or-map (λ f. f.place) digests i d 0 lt) ∙ ap (λ ps. get_or ps i 0) places_kept
      ∙ get_or-map (λ f. f.place) new i some_fresh 0 (omega (arith, settled.long, digests_long))

  pub digests_within : (i : ℕ) (d : Fresh (List ℕ)) → i < length digests → (get_or digests i d).place ≤ length ds
  digests_within i d lt =
      let le = owners_within i some_fresh (omega (arith, settled.long, digests_long)) in
      omega (arith, digest_place i d lt, rows.long)

  pub digests_in_order : IsNonDecreasingBy (λ (f : Fresh (List ℕ)). f.place) digests
  digests_in_order i j d le lt =
      let is = owners_in_order i j some_fresh le (omega (arith, settled.long, digests_long)) in
      omega (arith, digest_place i d (omega arith), digest_place j d lt)

  listed : rows_in next (with_fresh new os) (with_fresh digests ds) ≡ with_inserted (λ (f : FreshRow). f.0.place) (fresh_origin next) (zip new digests) held
  listed =
      let view = λ (row : PoolEntry × List ℕ). let o : Origin = (entry_in next row.0, row.1) in o in
      let item = λ (f : FreshRow). let row : PoolEntry × List ℕ = (f.0.item, f.1.item) in row in
      ap (map view) (zip-with_fresh new digests os ds places_kept rows.long)
      ∙ map-with_inserted (λ (f : FreshRow). f.0.place) item view (zip new digests) (zip os ds)

  pub rows_grown : IsRows next (with_fresh new os) (with_fresh digests ds)
  rows_grown = record {
    long = omega (arith, length-with_fresh new os, length-with_fresh digests ds, rows.long, settled.long, digests_long);
    each = each-with_inserted (λ (f : Fresh PoolEntry). f.place) (λ f. f.item) (IsEntryIn next) new os owners_within rows.each
        (λ j d lt. (settled.each j d (omega (arith, settled.long))).lies);
    rising = subst (IsRising origin_cmp) (sym listed)
        (rising-with_inserted origins_total (λ (f : FreshRow). f.0.place) (fresh_origin next) held (zip new digests) rows.rising gaps rising);
  }

  pub view_rows : set.from_list {R = origin_cmp} (rows_in next (with_fresh new os) (with_fresh digests ds)) ≡ set.union (set.from_list (rows_in next os ds))
      (set.from_list (fresh_rows_in from old digests))
  view_rows =
      ap set.from_list listed
      ∙ from_list-with_inserted origins_total (λ (f : FreshRow). f.0.place) (fresh_origin next) held origins_antisymmetric (zip new digests)
      ∙ ap (λ xs. set.union (set.from_list {R = origin_cmp} held) (set.from_list xs)) fresh_same

-- the slices of new owners are held where all of the new rows' are
pub owner_held : (s : set.SetOf entry_cmp) (from : List ℕ) (owners : List (Fresh PoolEntry)) (digests : List (Fresh (List ℕ)))
    → map (λ f. f.place) digests ≡ map (λ f. f.place) owners → AreHeld s (set.from_list (fresh_rows_in from owners digests))
    → (i : ℕ) (d : Fresh PoolEntry) → i < length owners → set.contains s (entry_in from (get_or owners i d).item) ≡ true
owner_held s from owners digests same held i d lt =
    let long : length digests ≡ length owners =
    omega (arith, ap length same, length-map digests (λ f. f.place), length-map owners (λ f. f.place)) in
    let both = get_or-zip owners digests i (d, some_digest) lt (omega arith) in
    let in_zip : i < length (zip owners digests) = omega (arith, length-zip owners digests) in
    let o : Origin = (entry_in from (get_or owners i d).item, (get_or digests i some_digest).item) in
    let at : get_or (fresh_rows_in from owners digests) i o ≡ o =
    get_or-map (fresh_origin from) (zip owners digests) i (d, some_digest) o in_zip ∙ ap (fresh_origin from) both in
    let there = contains_listed origins_total (fresh_rows_in from owners digests) i o (omega (arith, length-map (zip owners digests) (fresh_origin from))) in
    held o (ap (set.contains (set.from_list {R = origin_cmp} (fresh_rows_in from owners digests))) (sym at) ∙ there)
