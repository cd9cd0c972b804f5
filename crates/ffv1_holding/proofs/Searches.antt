-- What a binary search finds in a list whose keys strictly rise.
use Rattle.std.proofs.Common.{◌≡◌, ℕ, ◌<◌, ◌≤◌, List, [], ◌∷◌, length, map, get_or, sym, refl, ap, subst, ◌∙◌, inl, inr, arith, Result, Ok, Err, IfOk, IfErr}
use Rattle.std.specs.Ordering.{ordering_index}
use Rattle.std.specs.Cmp.{IsTotalOrder, alike_right}
use Rattle.std.specs.List.Sorted.{IsSearchInRange, IsBinarySearchResult, IsNonDecreasingBy}
use Rattle.std.specs.FinMap.{IsAntisymmetric}
use Rattle.std.specs.declared.cmp.Ordering.{Ordering}
use Rattle.std.specs.declared.cmp.Ordering.TheVariants.{Less, Equal, Greater}
use Rattle.std.proofs.lemmas.List.{length-map, get_or-map}
use Rattle.std.proofs.lemmas.Bool.{cases_order}
use Rattle.ffv1_holding.specs.Rising.{IsRising}
use Rattle.ffv1_holding.specs.Inner.Rising.{IsInsertionPlace, IsPlaceOf}

index_le : (a : Ordering) → ordering_index a ≤ 2
index_le Less = omega arith
index_le Equal = omega arith
index_le Greater = omega arith

index_from_Less : (a b : Ordering) → a ≡ Less → ordering_index a ≤ ordering_index b
index_from_Less a b e = rw e (omega arith)

module _ {K X : Type 0} {R : K → K → Ordering} (o : IsTotalOrder R) (f : X → K) where
  ranks_rise : (x y q : K) → R x y ≡ Less → ordering_index (R x q) ≤ ordering_index (R y q)
  ranks_rise x y q lt = elim (R y q) as (λ r. R y q ≡ r → ordering_index (R x q) ≤ ordering_index r) [
    | Less ↦ λ e. index_from_Less (R x q) Less (o.trans x y q lt e)
    | Equal ↦ λ e. index_from_Less (R x q) Equal (sym (alike_right o y q x e) ∙ lt)
    | Greater ↦ λ e. index_le (R x q)
  ] refl

  key_at : (xs : List X) (i : ℕ) (d : X) (e : K) → i < length xs → get_or (map f xs) i e ≡ f (get_or xs i d)
  key_at xs i d e lt = get_or-map f xs i d e lt

  keys_rise : (xs : List X) → IsRising R (map f xs) → (i j : ℕ) (d : X) → i < j → j < length xs → R (f (get_or xs i d)) (f (get_or xs j d)) ≡ Less
  keys_rise xs up i j d lt in_range =
      let long = length-map xs f in
      let at_i = key_at xs i d (f d) (omega arith) in
      let at_j = key_at xs j d (f d) in_range in
      rw (← at_i, ← at_j) (up i j (f d) lt (omega arith))

  searchable : (xs : List X) (q : K) → IsRising R (map f xs) → IsNonDecreasingBy (λ y. ordering_index (R (f y) q)) xs
  searchable xs q up i j d le in_range = elim (cases_order i j) [
    | inl same ↦ rw same (omega arith)
    | inr (inl lt) ↦ ranks_rise _ _ q (keys_rise xs up i j d lt in_range)
    | inr (inr gt) ↦ absurd (omega arith)
  ]

  -- there is an item at a place that is in range
  some_at : (xs : List X) (i : ℕ) → i < length xs → X
  some_at [] i lt = absurd (omega arith)
  some_at (x ∷ xs) i lt = x

  key_here : (xs : List X) (i : ℕ) → i < length xs → (e : K) (P : K → Type 0) → ((d : X) → P (f (get_or xs i d))) → P (get_or (map f xs) i e)
  key_here xs i lt e P each = rw (key_at xs i (some_at xs i lt) e lt) (each (some_at xs i lt))

  pub place_found : IsAntisymmetric R → (xs : List X) (q : K) (i : ℕ) → i < length xs → ((d : X) → R (f (get_or xs i d)) q ≡ Equal) → IsPlaceOf (map f xs) q i
  place_found same xs q i lt equal =
      let long = length-map xs f in
      record { in_range = omega arith; is_there = λ e. key_here xs i lt e (λ k. k ≡ q) (λ d. same _ q (equal d)) }

  gap_found : (xs : List X) (q : K) (i : ℕ) → i ≤ length xs
      → ((j : ℕ) (d : X) → 0 ≤ j → j < i → R (f (get_or xs j d)) q ≡ Less) → ((j : ℕ) (d : X) → i ≤ j → j < length xs → R (f (get_or xs j d)) q ≡ Greater)
      → IsInsertionPlace R (map f xs) q i
  gap_found xs q i le before after =
      let long = length-map xs f in
      record {
        in_range = omega arith;
        below = λ j e lt. key_here xs j (omega arith) e (λ k. R k q ≡ Less) (λ d. before j d (omega arith) lt);
        above = λ j e ge lt. key_here xs j (omega arith) e (λ k. R k q ≡ Greater) (λ d. after j d ge (omega arith));
      }

  -- a binary search by key ends at the key, or at the gap for it
  pub searched : IsAntisymmetric R → (xs : List X) (q : K) → IsRising R (map f xs)
      → (r : Result ℕ ℕ) → IsSearchInRange r (length xs) → IsBinarySearchResult (λ y. R (f y) q) xs r
      → record { found : IfOk r (IsPlaceOf (map f xs) q); absent : IfErr r (IsInsertionPlace R (map f xs) q) }
  searched same xs q up (Ok i) in_range equal = record { found = place_found same xs q i in_range equal; absent = tt }
  searched same xs q up (Err i) in_range parted =
      let two = parted (searchable xs q up) in
      record { found = tt; absent = gap_found xs q i in_range two.0 two.1 }

map-itself : {K : Type 0} (xs : List K) → map (λ x. x) xs ≡ xs
map-itself [] = refl
map-itself (x ∷ xs) = ap (λ r. x ∷ r) (map-itself xs)

-- a binary search among the items themselves
pub searched_items : {K : Type 0} {R : K → K → Ordering} → IsTotalOrder R → IsAntisymmetric R → (xs : List K) (q : K) → IsRising R xs
    → (r : Result ℕ ℕ) → IsSearchInRange r (length xs) → IsBinarySearchResult (λ y. R y q) xs r
    → record { found : IfOk r (IsPlaceOf xs q); absent : IfErr r (IsInsertionPlace R xs q) }
searched_items {R = R} o same xs q up r in_range is =
    let rises = subst (IsRising R) (sym (map-itself xs)) up in
    let both = searched o (λ x. x) same xs q rises r in_range is in
    record {
      found = subst (λ ys. IfOk r (IsPlaceOf ys q)) (map-itself xs) both.found;
      absent = subst (λ ys. IfErr r (IsInsertionPlace R ys q)) (map-itself xs) both.absent;
    }
