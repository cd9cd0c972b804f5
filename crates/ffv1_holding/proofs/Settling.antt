-- One owner more is the entry of its slice in other bytes.
use Rattle.std.proofs.Common.{◌≡◌, ℕ, ◌+◌, ◌<◌, ◌≤◌, List, length, map, get_or, set, sym, refl, subst, ◌∙◌, inl, inr, arith}
use Rattle.std.proofs.lemmas.Bool.{cases_order}
use Rattle.std.proofs.lemmas.List.{length-map, get_or-map, get_or_default, get_or-set_same, get_or-set_other}
use Rattle.ffv1_holding.specs.Inner.Rising.{IsPlaceOf}
use Rattle.ffv1_holding.specs.Inner.PoolEntries.{entry_in, AreEntriesIn}
use Rattle.ffv1_holding.specs.Inner.Fresh.{IsMoved}
use Rattle.ffv1_holding.specs.declared.fresh.Fresh.{Fresh}
use Rattle.ffv1_holding.specs.declared.pool_entry.PoolEntry.{PoolEntry}

module _ (from bytes : List ℕ) (es : List PoolEntry) (each : AreEntriesIn bytes es) (old now : List (Fresh PoolEntry)) (index : ℕ)
    (lt : index < length now) (long : length now ≡ length old)
    (done : (i : ℕ) (d : Fresh PoolEntry) → i < index → IsMoved from bytes (get_or old i d) (get_or now i d))
    (left : (i : ℕ) (d : Fresh PoolEntry) → index ≤ i → get_or now i d ≡ get_or old i d) (f : Fresh PoolEntry) (at : ℕ) (e : PoolEntry)
    (found : IsPlaceOf (map (entry_in bytes) es) (entry_in from (get_or now index f).item) at) where
  abbrev settled : Fresh PoolEntry
  settled = record { place = (get_or now index f).place; item = get_or es at e }

  at_end : at < length es
  at_end = omega (arith, found.in_range, length-map es (entry_in bytes))

  settled_here : (d : Fresh PoolEntry) → IsMoved from bytes (get_or old index d) settled
  settled_here d =
      let same : get_or now index f ≡ get_or old index d = get_or_default now index f d lt ∙ left index d (omega arith) in
      subst (λ g. IsMoved from bytes g settled) same (record {
        lies = each at e at_end;
        same = sym (get_or-map (entry_in bytes) es at e (entry_in bytes e) at_end) ∙ found.is_there (entry_in bytes e);
        place = refl;
      })

  pub settled_more : (i : ℕ) (d : Fresh PoolEntry) → i < index + 1 → IsMoved from bytes (get_or old i d) (get_or (set now index settled) i d)
  settled_more i d in_range = elim (cases_order i index) [
    | inl same ↦ rw (same, get_or-set_same now index settled d lt) (settled_here d)
    | inr (inl before) ↦ rw (get_or-set_other now index i settled d (λ is. omega arith)) (done i d before)
    | inr (inr after) ↦ absurd (omega arith)
  ]

  pub settled_left : (i : ℕ) (d : Fresh PoolEntry) → index + 1 ≤ i → get_or (set now index settled) i d ≡ get_or old i d
  settled_left i d ge = get_or-set_other now index i settled d (λ is. omega arith) ∙ left i d (omega arith)
