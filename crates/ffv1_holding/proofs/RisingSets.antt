-- A finite set that is kept as a list whose items strictly rise.
use Rattle.std.proofs.Common.{◌≡◌, ℕ, zero, suc, ◌+◌, ◌-◌, ◌<◌, ◌≤◌, Bool, true, false, cond, ◌||◌, List, [], ◌∷◌, length, map, get_or, is_some, sym, refl, ap, subst, ◌∙◌, inl, inr, arith}
use Rattle.std.specs.List.{insert, list_any}
use Rattle.std.specs.Ordering.{is_eq, eq_by_cmp, ordering_reverse}
use Rattle.std.specs.Cmp.{IsTotalOrder, tied_itself, Equal-is}
use Rattle.std.specs.FinMap as finite
use Rattle.std.specs.FinMap.{IsAntisymmetric}
use Rattle.std.specs.FinMap.Entries.{put, by_order}
use Rattle.ffv1_holding.specs.Sets.{SetOf, contains, from_list, items, size, same_set, contains-insert, contains-from_list, contains-items}
use Rattle.ffv1_holding.specs.Sets as set
use Rattle.std.specs.declared.cmp.Ordering.{Ordering}
use Rattle.std.specs.declared.cmp.Ordering.TheVariants.{Less}
use Rattle.std.proofs.lemmas.List.Edits.{length-insert, get_or-insert_below, get_or-insert_at, get_or-insert_above}
use Rattle.std.proofs.lemmas.Bool.{cases_lt, cases_order, or_left, or_right}
use Rattle.std.proofs.lemmas.List.{length-map, get_or_default, nil_from_length}
use Rattle.ffv1_holding.specs.Rising.{IsRising}
use Rattle.ffv1_holding.specs.Inner.Rising.{IsInsertionPlace, IsPlaceOf}

-- the rest of a list that rises
pub rising_rest : {K : Type 0} (R : K → K → Ordering) (x : K) (xs : List K) → IsRising R (x ∷ xs) → IsRising R xs
rising_rest R x xs up i j d lt in_range = up (suc i) (suc j) d (omega arith) (omega arith)

abbrev keyed : {K : Type 0} → List K → List (K × Unit {0})
keyed [] = []
keyed (x ∷ xs) = (x, tt) ∷ keyed xs

keys-keyed : {K : Type 0} (xs : List K) → map (λ e. e.0) (keyed xs) ≡ xs
keys-keyed [] = refl
keys-keyed (x ∷ xs) = ap (λ r. x ∷ r) (keys-keyed xs)

or_swap : (a b c : Bool) → (a || (b || c)) ≡ (b || (a || c))
or_swap true true c = refl
or_swap true false c = refl
or_swap false b c = refl

-- what comes with another adds nothing to it
pub or_absorbed : (a b : Bool) → (a ≡ true → b ≡ true) → (a || b) ≡ b
or_absorbed true b h = sym (h refl)
or_absorbed false b h = refl

entries-empty : {K : Type 0} (R : K → K → Ordering) → finite.entries (set.empty {R = R}) ≡ []
entries-empty R = nil_from_length _ (sym (finite.len-entries (set.empty {R = R})) ∙ finite.len-empty R (Unit {0}))

module _ {K : Type 0} {R : K → K → Ordering} (o : IsTotalOrder R) where
  entries-from_list : (xs : List K) → IsRising R xs → finite.entries (from_list {R = R} xs) ≡ keyed xs
  entries-from_list [] up = entries-empty R
  entries-from_list (x ∷ []) up = finite.entries-insert o set.empty x tt ∙ ap (put R x tt) (entries-empty R)
  entries-from_list (x ∷ y ∷ xs) up =
      finite.entries-insert o (from_list (y ∷ xs)) x tt
      ∙ ap (put R x tt) (entries-from_list (y ∷ xs) (rising_rest R x (y ∷ xs) up))
      ∙ ap (λ r. by_order r ((x, tt) ∷ keyed (y ∷ xs)) ((y, tt) ∷ keyed xs) ((y, tt) ∷ put R x tt (keyed xs))) (up 0 1 x (omega arith) (omega arith))

  -- the set of a list that rises lists its items in that order
  pub items-from_list : (xs : List K) → IsRising R xs → items (from_list {R = R} xs) ≡ xs
  items-from_list xs up = ap (map (λ e. e.0)) (entries-from_list xs up) ∙ keys-keyed xs

  any_at : (q : K) (xs : List K) (i : ℕ) → i < length xs → eq_by_cmp R q (get_or xs i q) ≡ true → list_any (eq_by_cmp R q) xs ≡ true
  any_at q [] i lt e = absurd (omega arith)
  any_at q (x ∷ xs) zero lt e = or_left _ _ e
  any_at q (x ∷ xs) (suc i) lt e = or_right _ _ (any_at q xs i (omega arith) e)

  -- what stands at some place is contained
  pub contains_placed : (xs : List K) (q : K) (place : ℕ) → IsPlaceOf xs q place → contains (from_list {R = R} xs) q ≡ true
  contains_placed xs q place at =
      contains-from_list o xs q ∙ any_at q xs place at.in_range (ap (eq_by_cmp R q) (at.is_there q) ∙ ap is_eq (tied_itself o q))

  none_of : (q : K) (xs : List K) → ((j : ℕ) → j < length xs → eq_by_cmp R q (get_or xs j q) ≡ false) → list_any (eq_by_cmp R q) xs ≡ false
  none_of q [] each = refl
  none_of q (x ∷ xs) each = ap (λ b. b || list_any (eq_by_cmp R q) xs) (each 0 (omega arith)) ∙ none_of q xs (λ j lt. each (suc j) (omega arith))

  gap_apart : (xs : List K) (q : K) (place : ℕ) → IsInsertionPlace R xs q place → (j : ℕ) → j < length xs → eq_by_cmp R q (get_or xs j q) ≡ false
  gap_apart xs q place gap j lt = elim (cases_lt j place) [
    | inl before ↦ ap is_eq (o.antisymm q (get_or xs j q) ∙ ap ordering_reverse (gap.below j q before))
    | inr after ↦ ap is_eq (o.antisymm q (get_or xs j q) ∙ ap ordering_reverse (gap.above j q after lt))
  ]

  -- what has a gap is not contained
  pub contains_gap : (xs : List K) (q : K) (place : ℕ) → IsInsertionPlace R xs q place → contains (from_list {R = R} xs) q ≡ false
  contains_gap xs q place gap = contains-from_list o xs q ∙ none_of q xs (gap_apart xs q place gap)

  -- the list with the item put into its gap rises
  pub rising_insert : (xs : List K) (q : K) (place : ℕ) → IsRising R xs → IsInsertionPlace R xs q place → IsRising R (insert xs place q)
  rising_insert xs q place up gap i j d lt in_range =
      let new = insert xs place q in
      let long = length-insert xs place q gap.in_range in
      let under : (k : ℕ) → k < place → get_or new k d ≡ get_or xs k d = λ k h. get_or-insert_below xs place q d k h gap.in_range in
      let here : (k : ℕ) → k ≡ place → get_or new k d ≡ q = λ k h. rw h (get_or-insert_at xs place q d gap.in_range) in
      let over : (k : ℕ) → place < k → get_or new k d ≡ get_or xs (k - 1) d =
      λ k h. subst (λ n. get_or new n d ≡ get_or xs (k - 1) d) {x = k - 1 + 1} (omega arith)
      (get_or-insert_above xs place q d (k - 1) (omega arith) gap.in_range) in
      let flip : (k : ℕ) → place ≤ k → k < length xs → R q (get_or xs k d) ≡ Less =
      λ k h l. o.antisymm q (get_or xs k d) ∙ ap ordering_reverse (gap.above k d h l) in
      elim (cases_order i place) [
        | inl i_here ↦ rw (here i i_here, over j (omega arith)) (flip (j - 1) (omega arith) (omega arith))
        | inr (inl i_under) ↦ elim (cases_order j place) [
          | inl j_here ↦ rw (under i i_under, here j j_here) (gap.below i d i_under)
          | inr (inl j_under) ↦ rw (under i i_under, under j j_under) (up i j d lt (omega arith))
          | inr (inr j_over) ↦ rw (under i i_under, over j j_over) (up i (j - 1) d (omega arith) (omega arith))
        ]
        | inr (inr i_over) ↦ rw (over i i_over, over j (omega arith)) (up (i - 1) (j - 1) d (omega arith) (omega arith))
      ]

  any-insert : (p : K → Bool) (xs : List K) (place : ℕ) (q : K) → list_any p (insert xs place q) ≡ (p q || list_any p xs)
  any-insert p xs zero q = refl
  any-insert p [] (suc i) q = refl
  any-insert p (x ∷ xs) (suc i) q = ap (λ b. p x || b) (any-insert p xs i q) ∙ or_swap (p x) (p q) _

  -- to put an item into a list, at any place, is to add it to the set
  pub from_list-insert : IsAntisymmetric R → (xs : List K) (place : ℕ) (q : K) → from_list {R = R} (insert xs place q) ≡ set.insert (from_list xs) q
  from_list-insert same xs place q = same_set o same _ _ (λ r.
      contains-from_list o _ r ∙ any-insert (eq_by_cmp R r) xs place q
      ∙ ap (λ b. eq_by_cmp R r q || b) (sym (contains-from_list o xs r)) ∙ sym (contains-insert o (from_list xs) q r))

  -- to add what is there changes nothing
  pub insert_present : IsAntisymmetric R → (s : SetOf R) (q : K) → contains s q ≡ true → set.insert s q ≡ s
  insert_present same s q there = same_set o same _ _ (λ r.
      contains-insert o s q r
      ∙ or_absorbed _ _ (λ tie. ap is_some (sym (finite.get_tied o s r q ((Equal-is (R r q)).0 tie))) ∙ there))

length-keys : {K : Type 0} (es : List (K × Unit {0})) → length (map (λ e. e.0) es) ≡ length es
length-keys [] = refl
length-keys (e ∷ es) = ap suc (length-keys es)

-- as many items are listed as the set has
pub size-items : {K : Type 0} {R : K → K → Ordering} (s : SetOf R) → size s ≡ length (items s)
size-items s = finite.len-entries s ∙ sym (length-keys (finite.entries s))

-- a map of the items goes through an insertion
pub map-insert : {A B : Type 0} (f : A → B) (xs : List A) (i : ℕ) (x : A) → map f (insert xs i x) ≡ insert (map f xs) i (f x)
map-insert f xs zero x = refl
map-insert f [] (suc i) x = refl
map-insert f (y ∷ xs) (suc i) x = ap (λ r. f y ∷ r) (map-insert f xs i x)

-- a set kept as a list of values whose keys rise
module _ {K X : Type 0} {R : K → K → Ordering} (o : IsTotalOrder R) (f : X → K) where
  pub items_kept : (xs : List X) (s : SetOf R) → IsRising R (map f xs) → from_list (map f xs) ≡ s → items s ≡ map f xs
  items_kept xs s up is = ap items (sym is) ∙ items-from_list o (map f xs) up

  pub size_kept : (xs : List X) (s : SetOf R) → IsRising R (map f xs) → from_list (map f xs) ≡ s → size s ≡ length xs
  size_kept xs s up is = size-items s ∙ ap length (items_kept xs s up is) ∙ length-map xs f

cond_grows : (b : Bool) (n : ℕ) → n ≤ cond b n (n + 1)
cond_grows true n = omega arith
cond_grows false n = omega arith

-- an addition loses nothing
pub size_grows : {K : Type 0} {R : K → K → Ordering} (o : IsTotalOrder R) → (s : SetOf R) (k : K) → size s ≤ size (set.insert s k)
size_grows o s k = rw (set.size-insert o s k) (cond_grows (contains s k) (size s))

pub items-empty : {K : Type 0} (R : K → K → Ordering) → items (set.empty {R = R}) ≡ []
items-empty R = ap (map (λ e. e.0)) (entries-empty R)

-- each item that is listed is contained
pub contains_item : {K : Type 0} {R : K → K → Ordering} (o : IsTotalOrder R) → (s : SetOf R) (i : ℕ) (d : K) → i < length (items s)
    → contains s (get_or (items s) i d) ≡ true
contains_item {R = R} o s i d lt =
    contains-items s (get_or (items s) i d)
    ∙ any_at o (get_or (items s) i d) (items s) i lt (ap (eq_by_cmp R (get_or (items s) i d)) (get_or_default (items s) i (get_or (items s) i d) d lt)
    ∙ ap is_eq (tied_itself o (get_or (items s) i d)))

-- a union with one item more
pub union-insert : {K : Type 0} {R : K → K → Ordering} (o : IsTotalOrder R) → IsAntisymmetric R → (s t : SetOf R) (k : K)
    → set.union s (set.insert t k) ≡ set.insert (set.union s t) k
union-insert {R = R} o same s t k = same_set o same _ _ (λ q.
    set.contains-union o s (set.insert t k) q ∙ ap (λ b. contains s q || b) (contains-insert o t k q)
    ∙ or_swap (contains s q) (eq_by_cmp R q k) (contains t q)
    ∙ ap (λ b. eq_by_cmp R q k || b) (sym (set.contains-union o s t q)) ∙ sym (contains-insert o (set.union s t) k q))

size_union_list : {K : Type 0} {R : K → K → Ordering} (o : IsTotalOrder R) → IsAntisymmetric R → (s : SetOf R) (ks : List K)
    → size s ≤ size (set.union s (from_list ks))
size_union_list o same s [] = rw (set.union_empty o same s) (omega arith)
size_union_list o same s (k ∷ ks) =
    let grown = size_grows o (set.union s (from_list ks)) k in
    let rest = size_union_list o same s ks in
    rw (union-insert o same s (from_list ks) k) (omega arith)

-- a union loses nothing
pub size_union : {K : Type 0} {R : K → K → Ordering} (o : IsTotalOrder R) → IsAntisymmetric R → (s t : SetOf R) → size s ≤ size (set.union s t)
size_union o same s t = subst (λ u. size s ≤ size (set.union s u)) (set.from_list-items o same t) (size_union_list o same s (items t))
