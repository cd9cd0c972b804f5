-- Items that are put into a list, each at a place among those that the list had, the last of them first.
use Rattle.std.proofs.Common.{◌≡◌, ℕ, suc, ◌+◌, ◌-◌, ◌<◌, ◌≤◌, List, [], ◌∷◌, length, map, get_or, sym, refl, ap, subst, ◌∙◌, inl, inr, arith}
use Rattle.std.specs.List.{insert}
use Rattle.std.specs.List.Sorted.{IsNonDecreasingBy}
use Rattle.std.specs.Ordering.{ordering_reverse}
use Rattle.std.specs.Cmp.{IsTotalOrder}
use Rattle.std.specs.FinMap.{IsAntisymmetric}
use Rattle.std.specs.declared.cmp.Ordering.{Ordering}
use Rattle.std.specs.declared.cmp.Ordering.TheVariants.{Less, Greater}
use Rattle.std.proofs.lemmas.Bool.{cases_lt, cases_order}
use Rattle.std.proofs.lemmas.List.{length-map, get_or-map}
use Rattle.std.proofs.lemmas.List.Edits.{length-insert, get_or-insert_below, get_or-insert_at, get_or-insert_above}
use Rattle.ffv1_holding.specs.Sets as set
use Rattle.ffv1_holding.specs.Rising.{IsRising}
use Rattle.ffv1_holding.specs.Inner.Rising.{IsInsertionPlace}
use Rattle.ffv1_holding.specs.Inner.Fresh.{with_inserted}
use Rattle.ffv1_holding.proofs.RisingSets.{rising_rest, rising_insert, from_list-insert, map-insert, union-insert}

module _ {F X : Type 0} (place : F → ℕ) (item : F → X) where
  pub length-with_inserted : (fs : List F) (xs : List X) → ((i : ℕ) (d : F) → i < length fs → place (get_or fs i d) ≤ length xs)
      → length (with_inserted place item fs xs) ≡ length xs + length fs
  length-with_inserted [] xs within = omega arith
  length-with_inserted (f ∷ fs) xs within =
      let rest = length-with_inserted fs xs (λ i d lt. within (suc i) d (omega arith)) in
      omega (arith, length-insert (with_inserted place item fs xs) (place f) (item f) (let le = within 0 f (omega arith) in omega arith), rest)

  -- before all places nothing changes
  pub get_or-with_inserted_below : (fs : List F) (xs : List X) (p i : ℕ) (d : X) → ((j : ℕ) (e : F) → j < length fs → place (get_or fs j e) ≤ length xs)
      → ((j : ℕ) (e : F) → j < length fs → p ≤ place (get_or fs j e)) → i < p → get_or (with_inserted place item fs xs) i d ≡ get_or xs i d
  get_or-with_inserted_below [] xs p i d within from lt = refl
  get_or-with_inserted_below (f ∷ fs) xs p i d within from lt =
      let rest = λ (j : ℕ) (e : F) (in_range : j < length fs). within (suc j) e (omega arith) in
      let long = length-with_inserted fs xs rest in
      let here = within 0 f (omega arith) in
      let at = from 0 f (omega arith) in
      get_or-insert_below (with_inserted place item fs xs) (place f) (item f) d i (omega arith) (omega arith)
      ∙ get_or-with_inserted_below fs xs p i d rest (λ j e in_range. from (suc j) e (omega arith)) lt

  -- a fact of the list's items from a place on, and of those that are put there
  pub each_from-with_inserted : (Q : X → Type 0) (fs : List F) (xs : List X) (p : ℕ)
      → ((j : ℕ) (e : F) → j < length fs → place (get_or fs j e) ≤ length xs) → ((j : ℕ) (e : F) → j < length fs → p ≤ place (get_or fs j e))
      → ((i : ℕ) (d : X) → p ≤ i → i < length xs → Q (get_or xs i d)) → ((j : ℕ) (e : F) → j < length fs → Q (item (get_or fs j e)))
      → (i : ℕ) (d : X) → p ≤ i → i < length (with_inserted place item fs xs) → Q (get_or (with_inserted place item fs xs) i d)
  each_from-with_inserted Q [] xs p within from old new i d ge lt = old i d ge lt
  each_from-with_inserted Q (f ∷ fs) xs p within from old new i d ge lt =
      let rest = λ (j : ℕ) (e : F) (in_range : j < length fs). within (suc j) e (omega arith) in
      let ys = with_inserted place item fs xs in
      let long = length-with_inserted fs xs rest in
      let here = within 0 f (omega arith) in
      let at = from 0 f (omega arith) in
      let le : place f ≤ length ys = omega arith in
      let longer = length-insert ys (place f) (item f) le in
      let others = each_from-with_inserted Q fs xs p rest (λ j e in_range. from (suc j) e (omega arith)) old (λ j e in_range. new (suc j) e (omega arith)) in
      elim (cases_order i (place f)) [
        | inl same ↦ rw (same, get_or-insert_at ys (place f) (item f) d le) (new 0 f (omega arith))
        | inr (inl under) ↦ rw (get_or-insert_below ys (place f) (item f) d i under le) (others i d ge (omega arith))
        | inr (inr over) ↦ subst (λ k. Q (get_or (insert ys (place f) (item f)) k d)) {x = i - 1 + 1} (omega arith)
            (rw (get_or-insert_above ys (place f) (item f) d (i - 1) (omega arith) le) (others (i - 1) d (omega arith) (omega arith)))
      ]

pub map-with_inserted : {F X Y : Type 0} (place : F → ℕ) (item : F → X) (view : X → Y) (fs : List F) (xs : List X)
    → map view (with_inserted place item fs xs) ≡ with_inserted place (λ f. view (item f)) fs (map view xs)
map-with_inserted place item view [] xs = refl
map-with_inserted place item view (f ∷ fs) xs =
    map-insert view (with_inserted place item fs xs) (place f) (item f)
    ∙ ap (λ ys. insert ys (place f) (view (item f))) (map-with_inserted place item view fs xs)

module _ {F K : Type 0} {R : K → K → Ordering} (o : IsTotalOrder R) (place : F → ℕ) (key : F → K) where
  flip : (x y : K) → R x y ≡ Less → R y x ≡ Greater
  flip x y less = o.antisymm y x ∙ ap ordering_reverse less

  -- the first of items that rise is below the others
  first_below : (f : F) (fs : List F) → IsRising R (map key (f ∷ fs)) → (j : ℕ) (e : F) → j < length fs → R (key (get_or fs j e)) (key f) ≡ Greater
  first_below f fs up j e lt =
      let long = length-map fs key in
      flip (key f) (key (get_or fs j e)) (ap (R (key f)) (sym (get_or-map key fs j e (key e) lt)) ∙ up 0 (suc j) (key e) (omega arith) (omega arith))

  -- what is lower does not go after what is higher
  gaps_in_order : (ks : List K) (x y : K) (p q : ℕ) → R y x ≡ Greater → IsInsertionPlace R ks x p → IsInsertionPlace R ks y q → p ≤ q
  gaps_in_order ks x y p q above gap also = elim (cases_lt q p) [
    | inl under ↦
        let low = gap.below q x under in
        let high = also.above q x (omega arith) (omega (arith, gap.in_range)) in
        let lower : R y (get_or ks q x) ≡ Less = o.antisymm y (get_or ks q x) ∙ ap ordering_reverse high in
        absurd (let clash : Less ≡ Greater = sym (o.trans y (get_or ks q x) x lower low) ∙ above in cc)
    | inr is ↦ is
  ]

  module _ (ks : List K) where
    pub places_rise : (fs : List F) → ((i : ℕ) (d : F) → i < length fs → IsInsertionPlace R ks (key (get_or fs i d)) (place (get_or fs i d))) → IsRising R (map key fs)
        → IsNonDecreasingBy place fs
    places_rise fs gaps up i j d le lt = elim (cases_order i j) [
      | inl same ↦ rw same (omega arith)
      | inr (inl before) ↦
          let long = length-map fs key in
          let at_i = get_or-map key fs i d (key d) (omega arith) in
          let at_j = get_or-map key fs j d (key d) lt in
          let less : R (key (get_or fs i d)) (key (get_or fs j d)) ≡ Less = (λ k. R (sym at_i k) (sym at_j k)) ∙ up i j (key d) before (omega arith) in
          gaps_in_order ks (key (get_or fs i d)) (key (get_or fs j d)) (place (get_or fs i d)) (place (get_or fs j d)) (flip _ _ less)
          (gaps i d (omega arith)) (gaps j d lt)
      | inr (inr after) ↦ absurd (omega arith)
    ]

    pub rising-with_inserted : (fs : List F) → IsRising R ks
        → ((i : ℕ) (d : F) → i < length fs → IsInsertionPlace R ks (key (get_or fs i d)) (place (get_or fs i d))) → IsRising R (map key fs)
        → IsRising R (with_inserted place key fs ks)
    rising-with_inserted [] up gaps rise = up
    rising-with_inserted (f ∷ fs) up gaps rise =
        let others = λ (i : ℕ) (d : F) (lt : i < length fs). gaps (suc i) d (omega arith) in
        let within = λ (i : ℕ) (d : F) (lt : i < length fs). (others i d lt).in_range in
        let from = λ (i : ℕ) (d : F) (lt : i < length fs).
        gaps_in_order ks (key f) (key (get_or fs i d)) (place f) (place (get_or fs i d)) (first_below f fs rise i d lt)
        (gaps 0 f (omega arith)) (others i d lt) in
        let long = length-with_inserted place key fs ks within in
        let gap = gaps 0 f (omega arith) in
        rising_insert o (with_inserted place key fs ks) (key f) (place f)
        (rising-with_inserted fs up others (rising_rest R (key f) (map key fs) rise))
        (record {
          in_range = omega (arith, gap.in_range);
          below = λ j d lt. ap (λ x. R x (key f)) (get_or-with_inserted_below place key fs ks (place f) j d within from lt) ∙ gap.below j d lt;
          above = each_from-with_inserted place key (λ x. R x (key f) ≡ Greater) fs ks (place f) within from gap.above (first_below f fs rise);
        })

    pub from_list-with_inserted : IsAntisymmetric R → (fs : List F) → set.from_list {R = R} (with_inserted place key fs ks) ≡ set.union (set.from_list ks)
        (set.from_list (map key fs))
    from_list-with_inserted same [] = sym (set.union_empty o same (set.from_list ks))
    from_list-with_inserted same (f ∷ fs) =
        from_list-insert o same (with_inserted place key fs ks) (place f) (key f)
        ∙ ap (λ s. set.insert s (key f)) (from_list-with_inserted same fs)
        ∙ sym (union-insert o same (set.from_list ks) (set.from_list (map key fs)) (key f))

-- a fact of each item
pub each-with_inserted : {F X : Type 0} (place : F → ℕ) (item : F → X) (P : X → Type 0) (fs : List F) (xs : List X)
    → ((j : ℕ) (e : F) → j < length fs → place (get_or fs j e) ≤ length xs) → ((i : ℕ) (d : X) → i < length xs → P (get_or xs i d))
    → ((j : ℕ) (e : F) → j < length fs → P (item (get_or fs j e)))
    → (i : ℕ) (d : X) → i < length (with_inserted place item fs xs) → P (get_or (with_inserted place item fs xs) i d)
each-with_inserted place item P fs xs within old new i d lt =
    each_from-with_inserted place item P fs xs 0 within (λ j e in_range. omega arith) (λ k e ge in_range. old k e in_range) new i d (omega arith) lt
