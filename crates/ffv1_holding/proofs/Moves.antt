-- The slices of new entries go after the bytes that are there, and the entries say where they lie.
use Rattle.std.proofs.Common.{◌≡◌, ℕ, ◌+◌, ◌<◌, ◌≤◌, List, ◌++◌, length, drop, get_or, set, sym, refl, ap, subst, ◌∙◌, inl, inr, arith}
use Rattle.std.proofs.lemmas.Bool.{cases_order}
use Rattle.std.proofs.lemmas.List.{length-take-le, length-drop, get_or_default, get_or-set_same, get_or-set_other}
use Rattle.ffv1_holding.specs.Inner.PoolEntries.{slice_in, entry_in, IsEntryIn}
use Rattle.ffv1_holding.specs.Inner.Fresh.{IsMoved}
use Rattle.ffv1_holding.specs.declared.pool_entry.PoolEntry.{PoolEntry}
use Rattle.ffv1_holding.specs.declared.fresh.Fresh.{Fresh}
use Rattle.ffv1_holding.proofs.Pools.{part_kept, entry_kept, entry_after, slice_after, is_after}

-- a new entry whose slice begins elsewhere
abbrev pub begins : Fresh PoolEntry → ℕ → Fresh PoolEntry
begins f start = record { place = f.place; item = record { tile = f.item.tile; start = start; length = f.item.length } }

module _ (from bytes : List ℕ) (f : Fresh PoolEntry) (is : IsEntryIn from f.item) where
  pub slice_long : length (slice_in from f.item) ≡ f.item.length
  slice_long = length-take-le f.item.length (drop f.item.start from) (omega (arith, is.within, length-drop f.item.start from))

  moved_after : (start : ℕ) → start ≡ length bytes → IsMoved from (bytes ++ slice_in from f.item) f (begins f start)
  moved_after start e =
      let s = slice_in from f.item in
      let later : entry_after bytes f.item.tile s ≡ (begins f start).item =
      (λ i. record { tile = f.item.tile; start = sym e i; length = slice_long i }) in
      record {
        lies = subst (IsEntryIn (bytes ++ s)) later (is_after bytes f.item.tile s is.framed);
        same = ap (entry_in (bytes ++ s)) (sym later) ∙ (λ i. (f.item.tile, slice_after bytes f.item.tile s i));
        place = refl;
      }

-- what lies in the bytes lies there as well with more after them
moved_kept : (from bytes more : List ℕ) (old new : Fresh PoolEntry) → IsMoved from bytes old new → IsMoved from (bytes ++ more) old new
moved_kept from bytes more old new is = record {
  lies = entry_kept bytes more new.item is.lies;
  same = (λ i. (new.item.tile, part_kept bytes more new.item.start new.item.length is.lies.within i)) ∙ is.same;
  place = is.place;
}

module _ (from bytes : List ℕ) (old fresh : List (Fresh PoolEntry)) (index start : ℕ) (f : Fresh PoolEntry) (lt : index < length fresh)
    (long : length fresh ≡ length old)
    (here : get_or fresh index f ≡ f) (begin : start ≡ length bytes)
    (lies : (i : ℕ) (d : Fresh PoolEntry) → i < length old → IsEntryIn from (get_or old i d).item)
    (done : (i : ℕ) (d : Fresh PoolEntry) → i < index → IsMoved from bytes (get_or old i d) (get_or fresh i d))
    (left : (i : ℕ) (d : Fresh PoolEntry) → index ≤ i → get_or fresh i d ≡ get_or old i d) where
  f_is : (d : Fresh PoolEntry) → get_or old index d ≡ f
  f_is d = sym (left index d (omega arith)) ∙ get_or_default fresh index d f lt ∙ here

  pub moved_more : (next : List ℕ) → next ≡ bytes ++ slice_in from f.item → (i : ℕ) (d : Fresh PoolEntry) → i < index + 1
      → IsMoved from next (get_or old i d) (get_or (set fresh index (begins f start)) i d)
  moved_more next is i d in_range = elim (cases_order i index) [
    | inl same ↦ rw (same, is, get_or-set_same fresh index (begins f start) d lt, f_is d)
        (moved_after from bytes f (subst (λ (g : Fresh PoolEntry). IsEntryIn from g.item) (f_is d) (lies index d (omega arith))) start begin)
    | inr (inl before) ↦ rw (is, get_or-set_other fresh index i (begins f start) d (λ e. omega arith))
        (moved_kept from bytes (slice_in from f.item) (get_or old i d) (get_or fresh i d) (done i d before))
    | inr (inr after) ↦ absurd (omega arith)
  ]

  pub left_more : (i : ℕ) (d : Fresh PoolEntry) → index + 1 ≤ i → get_or (set fresh index (begins f start)) i d ≡ get_or old i d
  left_more i d ge = get_or-set_other fresh index i (begins f start) d (λ e. omega arith) ∙ left i d (omega arith)
