-- The rows of one slice alone, and those of slices that all came from one copy.
use Rattle.std.proofs.Common.{◌≡◌, ℕ, zero, suc, ◌-◌, List, [], ◌∷◌, ◌++◌, length, map, take, get_or, replicate, sym, refl, ap, subst, ◌∙◌, arith, Result, Ok, Err, OnOk}
use Rattle.std.specs.Ordering.{ordering_then}
use Rattle.std.specs.Cmp.{tied_itself}
use Rattle.std.proofs.lemmas.List.{length-map, get_or-map, length-replicate, get_or-replicate}
use Rattle.ffv1_slice.specs.Chain.{IsFramed}
use Rattle.ffv1_holding.specs.SliceOrder.{Entry, Origin, with_each, entry_cmp, bytes_cmp, origin_cmp, entries_total, entries_antisymmetric}
use Rattle.ffv1_holding.specs.Sets as set
use Rattle.ffv1_holding.specs.Rising.{IsRising}
use Rattle.ffv1_holding.specs.Inner.PoolEntries.{entry_in, IsEntryIn, IsPool}
use Rattle.ffv1_holding.specs.Inner.Rows.{rows_in, IsRows}
use Rattle.ffv1_holding.specs.declared.pool_entry.PoolEntry.{PoolEntry}
use Rattle.ffv1_holding.proofs.ItemsRise.{rising_one}
use Rattle.ffv1_holding.proofs.Pools.{entry_after, slice_after, is_after}
use Rattle.ffv1_holding.proofs.RisingSets.{union-insert}

-- what a success says, said otherwise
pub OnOk-map : {T E : Type 0} (r : Result T E) (P Q : Type 0) → OnOk r P → (P → Q) → OnOk r Q
OnOk-map (Ok x) P Q is leads = leads is
OnOk-map (Err e) P Q is leads = is

-- with just one slice
pub union_one : (s : set.SetOf entry_cmp) (e : Entry) → set.union s (set.from_list (e ∷ [])) ≡ set.insert s e
union_one s e = union-insert entries_total entries_antisymmetric s set.empty e
    ∙ ap (λ t. set.insert t e) (set.union_empty entries_total entries_antisymmetric s)

module _ (tile : ℕ) (slice : List ℕ) (framed : IsFramed slice) where
  -- the entry of a slice in its own bytes
  abbrev pub own_entry : PoolEntry
  own_entry = entry_after [] tile slice

  pub own_view : entry_in slice own_entry ≡ (tile, slice)
  own_view = λ i. (tile, slice_after [] tile slice i)

  own_lies : IsEntryIn slice own_entry
  own_lies = is_after [] tile slice framed

  pub own_pool : IsPool slice (own_entry ∷ [])
  own_pool = record {
    each = λ i d lt. subst (λ (k : ℕ). IsEntryIn slice (get_or (own_entry ∷ []) k d)) {x = 0} {y = i} (omega arith) own_lies;
    rising = rising_one entry_cmp (entry_in slice own_entry);
  }

  module _ (digests : List (List ℕ)) where
    mark : List ℕ → Origin
    mark d = ((tile, slice), d)

    pub own_listed : rows_in slice (replicate (length digests) own_entry) digests ≡ with_each (tile, slice) digests
    own_listed = each digests
      where
        each : (ds : List (List ℕ)) → rows_in slice (replicate (length ds) own_entry) ds ≡ with_each (tile, slice) ds
        each [] = refl
        each (d ∷ ds) = λ i. (own_view i, d) ∷ each ds i

    each_rising : IsRising bytes_cmp digests → IsRising origin_cmp (with_each (tile, slice) digests)
    each_rising up i j d lt in_range =
        let e : Entry = (tile, slice) in
        let view = λ (x : List ℕ). let o : Origin = (e, x) in o in
        let long = length-map digests view in
        rw (get_or-map view digests i d.1 d (omega arith), get_or-map view digests j d.1 d (omega arith))
        (ap (λ o. ordering_then o (bytes_cmp (get_or digests i d.1) (get_or digests j d.1))) (tied_itself entries_total e) ∙ up i j d.1 lt (omega arith))

    pub own_rows : IsRising bytes_cmp digests → IsRows slice (replicate (length digests) own_entry) digests
    own_rows up = record {
      long = sym (length-replicate (length digests) own_entry);
      each = λ i d lt. rw (get_or-replicate (length digests) i own_entry d (omega (arith, length-replicate (length digests) own_entry))) own_lies;
      rising = subst (IsRising origin_cmp) (sym own_listed) (each_rising up);
    }

module _ (copy digest : List ℕ) where
  -- the slices of a copy with one digest
  pub marked_listed : (es : List PoolEntry) → rows_in copy es (replicate (length es) digest) ≡ map (λ e. (e, digest)) (map (entry_in copy) es)
  marked_listed [] = refl
  marked_listed (e ∷ es) = ap (λ r. (entry_in copy e, digest) ∷ r) (marked_listed es)

  marked_rising : (xs : List Entry) → IsRising entry_cmp xs → IsRising origin_cmp (map (λ e. (e, digest)) xs)
  marked_rising xs up i j d lt in_range =
      let view = λ (e : Entry). let o : Origin = (e, digest) in o in
      let long = length-map xs view in
      rw (get_or-map view xs i d.0 d (omega arith), get_or-map view xs j d.0 d (omega arith))
      (ap (λ o. ordering_then o (bytes_cmp digest digest)) (up i j d.0 lt (omega arith)))

  pub marked_rows : (es : List PoolEntry) → IsPool copy es → IsRows copy es (replicate (length es) digest)
  marked_rows es pool = record {
    long = length-replicate (length es) digest;
    each = pool.each;
    rising = subst (IsRising origin_cmp) (sym (marked_listed es)) (marked_rising (map (entry_in copy) es) pool.rising);
  }

take_none : {X : Type 0} (n : ℕ) → take n (let xs : List X = [] in xs) ≡ []
take_none zero = refl
take_none (suc n) = refl

-- an empty list that was filled up
pub resized : {X : Type 0} (items xs : List X) (n k : ℕ) (x : X) → items ≡ take n xs ++ replicate (n - k) x → xs ≡ [] → k ≡ 0 → items ≡ replicate n x
resized items xs n k x is none zero_long =
    is ∙ (λ i. take n (none i) ++ replicate (n - zero_long i) x) ∙ ap (λ ys. ys ++ replicate (n - 0) x) (take_none n)
    ∙ ap (λ m. replicate m x) {x = n - 0} {y = n} (omega arith)
