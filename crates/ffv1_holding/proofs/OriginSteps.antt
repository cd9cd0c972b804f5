-- What more origins do to what a holding keeps.
use Rattle.std.proofs.Common.{◌≡◌, ℕ, ◌<◌, Bool, true, false, ◌||◌, ◌&&◌, List, [], ◌∷◌, length, map, get_or, sym, refl, ap, ◌∙◌, arith}
use Rattle.std.specs.List.{list_any}
use Rattle.std.specs.Ordering.{ordering_then, is_eq, eq_by_cmp}
use Rattle.std.specs.Cmp.{tied_itself}
use Rattle.std.specs.declared.cmp.Ordering.{Ordering}
use Rattle.std.specs.declared.cmp.Ordering.TheVariants.{Less, Equal, Greater}
use Rattle.std.proofs.lemmas.List.{length-map, get_or-map}
use Rattle.std.proofs.lemmas.Bool.{or_left, or_right}
use Rattle.ffv1_holding.specs.SliceOrder.{Entry, Origin, with_each, entry_cmp, origin_cmp, bytes_cmp, entries_total, origins_total, origins_antisymmetric}
use Rattle.ffv1_holding.specs.Sets as set
use Rattle.ffv1_holding.specs.Contents.{AreHeld, AreOfDigestLength}
use Rattle.ffv1_holding.proofs.EntrySteps.{all-union, all-from_list, contains_listed}

-- what both hold is held by the union
module _ (s t : set.SetOf entry_cmp) where
  held_left : (e : Entry) → set.contains s e ≡ true → set.contains (set.union s t) e ≡ true
  held_left e is = set.contains-union entries_total s t e ∙ or_left _ _ is

  held_right : (e : Entry) → set.contains t e ≡ true → set.contains (set.union s t) e ≡ true
  held_right e is = set.contains-union entries_total s t e ∙ or_right _ _ is

  pub held_union : (u v : set.SetOf origin_cmp) → AreHeld s u → AreHeld t v → AreHeld (set.union s t) (set.union u v)
  held_union u v left right = all-union origins_total origins_antisymmetric (λ o. set.contains (set.union s t) o.0 ≡ true) u v
      (λ o is. held_left o.0 (left o is)) (λ o is. held_right o.0 (right o is))

pub whole_union : (u v : set.SetOf origin_cmp) → AreOfDigestLength u → AreOfDigestLength v → AreOfDigestLength (set.union u v)
whole_union u v left right = all-union origins_total origins_antisymmetric (λ o. length o.1 ≡ 32) u v left right

-- one slice with digests
module _ (s : set.SetOf entry_cmp) (u : set.SetOf origin_cmp) (e : Entry) (digests : List (List ℕ)) where
  pub held_one : AreHeld (set.insert s e) (set.from_list (with_each e digests))
  held_one = all-from_list origins_total origins_antisymmetric (λ o. set.contains (set.insert s e) o.0 ≡ true) (with_each e digests)
      (λ i d lt. let long = length-map digests (λ x. let o : Origin = (e, x) in o) in
      rw (get_or-map (λ x. let o : Origin = (e, x) in o) digests i d.1 d (omega arith))
      (set.contains-insert entries_total s e e ∙ or_left _ _ (ap is_eq (tied_itself entries_total e))))

  pub held_each : AreHeld s u → AreHeld (set.insert s e) (set.union u (set.from_list (with_each e digests)))
  held_each all = all-union origins_total origins_antisymmetric (λ o. set.contains (set.insert s e) o.0 ≡ true) u (set.from_list (with_each e digests))
      (λ o is. set.contains-insert entries_total s e o.0 ∙ or_right _ _ (all o is)) held_one

  pub whole_each : AreOfDigestLength u → ((i : ℕ) (d : List ℕ) → i < length digests → length (get_or digests i d) ≡ 32)
      → AreOfDigestLength (set.union u (set.from_list (with_each e digests)))
  whole_each all long = whole_union u (set.from_list (with_each e digests)) all
      (all-from_list origins_total origins_antisymmetric (λ o. length o.1 ≡ 32) (with_each e digests)
      (λ i d lt. let size = length-map digests (λ x. let o : Origin = (e, x) in o) in
      rw (get_or-map (λ x. let o : Origin = (e, x) in o) digests i d.1 d (omega arith)) (long i d.1 (omega arith))))

pub both_tie : (a b : Ordering) → is_eq (ordering_then a b) ≡ (is_eq a && is_eq b)
both_tie Less b = refl
both_tie Equal b = refl
both_tie Greater b = refl

and_shared : (a b c : Bool) → ((a && c) || (b && c)) ≡ ((a || b) && c)
and_shared true true true = refl
and_shared true true false = refl
and_shared true false true = refl
and_shared true false false = refl
and_shared false b c = refl

-- slices that all came from one copy
module _ (digest : List ℕ) where
  abbrev marked : Entry → Origin
  marked e = (e, digest)

  pub held_marked : (xs : List Entry) → AreHeld (set.from_list xs) (set.from_list (map (λ e. (e, digest)) xs))
  held_marked xs = all-from_list origins_total origins_antisymmetric (λ o. set.contains (set.from_list {R = entry_cmp} xs) o.0 ≡ true) (map marked xs)
      (λ i d lt. let size = length-map xs marked in
      rw (get_or-map marked xs i d.0 d (omega arith)) (contains_listed entries_total xs i d.0 (omega arith)))

  pub whole_marked : (xs : List Entry) → length digest ≡ 32 → AreOfDigestLength (set.from_list (map (λ e. (e, digest)) xs))
  whole_marked xs long = all-from_list origins_total origins_antisymmetric (λ o. length o.1 ≡ 32) (map marked xs)
      (λ i d lt. let size = length-map xs marked in rw (get_or-map marked xs i d.0 d (omega arith)) long)

  any-marked : (q : Origin) (xs : List Entry) → list_any (eq_by_cmp origin_cmp q) (map (λ e. (e, digest)) xs)
      ≡ (list_any (eq_by_cmp entry_cmp q.0) xs && eq_by_cmp bytes_cmp q.1 digest)
  any-marked q [] = refl
  any-marked q (x ∷ xs) =
      (λ i. both_tie (entry_cmp q.0 x) (bytes_cmp q.1 digest) i || any-marked q xs i)
      ∙ and_shared (eq_by_cmp entry_cmp q.0 x) (list_any (eq_by_cmp entry_cmp q.0) xs) (eq_by_cmp bytes_cmp q.1 digest)

  -- the same slices have the same origins
  pub marked_same : (xs ys : List Entry) → set.from_list {R = entry_cmp} xs ≡ set.from_list ys
      → set.from_list {R = origin_cmp} (map (λ e. (e, digest)) xs) ≡ set.from_list (map (λ e. (e, digest)) ys)
  marked_same xs ys same = set.same_set origins_total origins_antisymmetric _ _ (λ q.
      set.contains-from_list origins_total (map (λ e. (e, digest)) xs) q ∙ any-marked q xs
      ∙ ap (λ b. b && eq_by_cmp bytes_cmp q.1 digest) (sym (set.contains-from_list entries_total xs q.0)
      ∙ ap (λ s. set.contains s q.0) same ∙ set.contains-from_list entries_total ys q.0)
      ∙ sym (any-marked q ys) ∙ sym (set.contains-from_list origins_total (map (λ e. (e, digest)) ys) q))
