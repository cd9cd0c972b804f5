-- Bytes that are put after those of a pool change no entry.
use Rattle.std.proofs.Common.{◌≡◌, ℕ, suc, ◌+◌, ◌≤◌, List, [], ◌∷◌, ◌++◌, length, map, take, drop, get_or, sym, refl, ap, ◌∙◌, subst, arith}
use Rattle.std.proofs.Math.Seq.{drop-append_seam, take-length}
use Rattle.std.proofs.lemmas.List.{take-append-le, drop-append-le, length-append, length-drop}
use Rattle.ffv1_slice.specs.Chain.{IsFramed}
use Rattle.ffv1_holding.specs.SliceOrder.{entry_cmp}
use Rattle.ffv1_holding.specs.Rising.{IsRising}
use Rattle.ffv1_holding.specs.Inner.PoolEntries.{slice_in, entry_in, IsEntryIn, AreEntriesIn, IsPool}
use Rattle.ffv1_holding.specs.declared.pool_entry.PoolEntry.{PoolEntry}

module _ (bytes more : List ℕ) where
  pub part_kept : (start long : ℕ) → start + long ≤ length bytes → take long (drop start (bytes ++ more)) ≡ take long (drop start bytes)
  part_kept start long le =
      ap (take long) (drop-append-le start bytes more (omega arith))
      ∙ take-append-le long (drop start bytes) more (omega (arith, length-drop start bytes))

  pub entry_kept : (e : PoolEntry) → IsEntryIn bytes e → IsEntryIn (bytes ++ more) e
  entry_kept e is =
      let same = part_kept e.start e.length is.within in
      record {
        within = omega (arith, is.within, length-append bytes more);
        framed = subst IsFramed (sym same) is.framed;
      }

  pub each_kept : (es : List PoolEntry) → AreEntriesIn bytes es → AreEntriesIn (bytes ++ more) es
  each_kept es each i d lt = entry_kept (get_or es i d) (each i d lt)

  pub entries_kept : (es : List PoolEntry) → AreEntriesIn bytes es → map (entry_in (bytes ++ more)) es ≡ map (entry_in bytes) es
  entries_kept [] each = refl
  entries_kept (e ∷ es) each =
      (λ i. (e.tile, part_kept e.start e.length (each 0 e (omega arith)).within i) ∷ entries_kept es (λ j d lt. each (suc j) d (omega arith)) i)

  -- the entries of a pool stay, whatever bytes come after
  pub pool_kept : (es : List PoolEntry) → IsPool bytes es → IsPool (bytes ++ more) es
  pool_kept es pool = record {
    each = each_kept es pool.each;
    rising = subst (IsRising entry_cmp) (sym (entries_kept es pool.each)) pool.rising;
  }

-- the entry of a slice that stands after the bytes
abbrev pub entry_after : List ℕ → ℕ → List ℕ → PoolEntry
entry_after bytes tile slice = record { tile = tile; start = length bytes; length = length slice }

module _ (bytes : List ℕ) (tile : ℕ) (slice : List ℕ) where
  pub slice_after : slice_in (bytes ++ slice) (entry_after bytes tile slice) ≡ slice
  slice_after = ap (take (length slice)) (drop-append_seam bytes slice) ∙ take-length slice

  pub is_after : IsFramed slice → IsEntryIn (bytes ++ slice) (entry_after bytes tile slice)
  is_after framed = record {
    within = omega (arith, length-append bytes slice);
    framed = subst IsFramed (sym slice_after) framed;
  }
