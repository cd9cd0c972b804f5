-- The slices of new rows are held once the slices that come are.
use Rattle.std.proofs.Common.{◌≡◌, ℕ, true, false, List, [], get_or, sym, ap, ◌∙◌, arith}
use mathlib.Core.Bool.{true≢false}
use Rattle.std.specs.List.{zip}
use Rattle.std.proofs.lemmas.List.{length-map, get_or-map}
use Rattle.std.proofs.lemmas.Bool.{or_right}
use Rattle.ffv1_holding.specs.SliceOrder.{Entry, Origin, entry_cmp, origin_cmp, entries_total, origins_total, origins_antisymmetric}
use Rattle.ffv1_holding.specs.Sets as set
use Rattle.ffv1_holding.specs.Contents.{AreHeld}
use Rattle.ffv1_holding.specs.Inner.Fresh.{AreAllFresh}
use Rattle.ffv1_holding.specs.Inner.Rows.{FreshRow, fresh_origin, fresh_rows_in, AreFreshRows}
use Rattle.ffv1_holding.specs.declared.pool_entry.PoolEntry.{PoolEntry}
use Rattle.ffv1_holding.specs.declared.fresh.Fresh.{Fresh}
use Rattle.ffv1_holding.proofs.EntrySteps.{or_cases, all-from_list, contains_listed}
use Rattle.ffv1_holding.proofs.RisingSets.{contains_gap}

some_row : FreshRow
some_row = (record { place = 0; item = record { tile = 0; start = 0; length = 0 } }, record { place = 0; item = [] })

module _ (held coming fresh : List Origin) (all : AreAllFresh origin_cmp held coming fresh) where
  -- what is new comes
  fresh_comes : (o : Origin) → set.contains (set.from_list {R = origin_cmp} held) o ≡ false → set.contains (set.from_list {R = origin_cmp} fresh) o ≡ true
      → set.contains (set.from_list {R = origin_cmp} coming) o ≡ true
  fresh_comes o not_held is =
      let there : set.contains (set.union (set.from_list {R = origin_cmp} held) (set.from_list coming)) o ≡ true =
      ap (λ s. set.contains s o) (sym all) ∙ set.contains-union origins_total (set.from_list held) (set.from_list fresh) o ∙ or_right _ _ is in
      or_cases (set.contains (set.from_list {R = origin_cmp} held) o) (set.contains (set.from_list {R = origin_cmp} coming) o) _
      (sym (set.contains-union origins_total (set.from_list held) (set.from_list coming) o) ∙ there)
      (λ yes. absurd (true≢false (sym yes ∙ not_held))) (λ yes. yes)

module _ (old coming fresh : List Entry) (all : AreAllFresh entry_cmp old coming fresh) where
  come_held : (e : Entry) → set.contains (set.from_list {R = entry_cmp} coming) e ≡ true
      → set.contains (set.union (set.from_list {R = entry_cmp} old) (set.from_list fresh)) e ≡ true
  come_held e is =
      ap (λ s. set.contains s e) all ∙ set.contains-union entries_total (set.from_list old) (set.from_list coming) e ∙ or_right _ _ is

  pub fresh_held : (held rows : List Origin) (from : List ℕ) (owners : List (Fresh PoolEntry)) (digests : List (Fresh (List ℕ)))
      → AreFreshRows held from owners digests → AreAllFresh origin_cmp held rows (fresh_rows_in from owners digests)
      → AreHeld (set.from_list coming) (set.from_list rows)
      → AreHeld (set.union (set.from_list old) (set.from_list fresh)) (set.from_list (fresh_rows_in from owners digests))
  fresh_held held rows from owners digests new all_rows owned =
      let list = fresh_rows_in from owners digests in
      let long = length-map (zip owners digests) (fresh_origin from) in
      all-from_list origins_total origins_antisymmetric
      (λ o. set.contains (set.union (set.from_list {R = entry_cmp} old) (set.from_list fresh)) o.0 ≡ true) list
      (λ i d lt.
      let at = get_or-map (fresh_origin from) (zip owners digests) i some_row d (omega arith) in
      let row = fresh_origin from (get_or (zip owners digests) i some_row) in
      let gap : set.contains (set.from_list {R = origin_cmp} held) (get_or list i d) ≡ false =
      rw at (contains_gap origins_total held row _ (new.gaps i some_row (omega arith))) in
      come_held (get_or list i d).0 (owned (get_or list i d)
      (fresh_comes held rows list all_rows (get_or list i d) gap (contains_listed origins_total list i d lt))))
