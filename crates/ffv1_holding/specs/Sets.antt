-- Finite sets that list their items in order. A set is std's finite map with nothing at each key, so it can be a model's value.
--     SetOf R, code      of keys in the order R;  its code, from that of the keys
--     empty, contains, insert, from_list, items, size      as Rust's `BTreeSet`;  `items` rises, and `from_list` is the set of any list's items
--     union s t      the set of the items of s and of t
--     contains-.., size-..      what `contains` and `size` give
--     same_set      two sets with the same members are equal, where only equal keys tie
--     union_comm, union_assoc, union_same      the union commutes, groups, and repeats without effect
use Rattle.std.specs.Prelude.{◌≡◌, ℕ, ◌+◌, Bool, true, false, cond, ◌||◌, List, [], ◌∷◌, ◌++◌, is_some}
use mathlib.Core.Bool.{or_comm, or_assoc, or_self, or-false}
use Rattle.std.proofs.Common.{sym, refl, ap, ◌∙◌}
use Rattle.std.proofs.Common.{Option, Some, None}
use Rattle.std.proofs.lemmas.List.Folds.{list_any-append}
use Rattle.std.specs.Coded.{Coded}
use Rattle.std.specs.FinSet as marks_of
use Rattle.std.specs.List.{list_any}
use Rattle.std.specs.Ordering.{eq_by_cmp}
use Rattle.std.specs.Cmp.{IsTotalOrder}
use Rattle.std.specs.FinMap as finite
use Rattle.std.specs.FinMap.{FinMap, IsAntisymmetric}
use Rattle.std.specs.declared.cmp.Ordering.{Ordering}

abbrev pub SetOf : {K : Type 0} → (K → K → Ordering) → Type 0
SetOf R = FinMap R (Unit {0})

some_or : (b : Bool) (x : Option (Unit {0})) → is_some (cond b (Some tt) x) ≡ (b || is_some x)
some_or true x = refl
some_or false x = refl

abbrev marked : Bool → Option (Unit {0})
marked b = cond b (Some tt) None

marks : (x : Option (Unit {0})) → x ≡ marked (is_some x)
marks None = refl
marks (Some u) = refl

or_absorbed : (a b : Bool) → ((a || b) || b) ≡ (a || b)
or_absorbed true b = refl
or_absorbed false true = refl
or_absorbed false false = refl

or_moved : (a b c : Bool) → (a || (b || (c || false))) ≡ (c || (a || b))
or_moved true b true = refl
or_moved true b false = refl
or_moved false true true = refl
or_moved false true false = refl
or_moved false false true = refl
or_moved false false false = refl

module _ {K : Type 0} {R : K → K → Ordering} where
  abbrev pub code : Coded K → Coded (SetOf R)
  code k = marks_of.code k

  abbrev pub empty : SetOf R
  empty = finite.empty

  abbrev pub contains : SetOf R → K → Bool
  contains s q = finite.contains_key s q

  abbrev pub insert : SetOf R → K → SetOf R
  insert s k = finite.insert s k tt

  abbrev pub items : SetOf R → List K
  items s = finite.keys s

  abbrev pub size : SetOf R → ℕ
  size s = finite.len s

  abbrev pub from_list : List K → SetOf R
  from_list [] = empty
  from_list (k ∷ ks) = insert (from_list ks) k

  unfoldable pub union : SetOf R → SetOf R → SetOf R
  union s t = from_list (items s ++ items t)

  pub contains-items : (s : SetOf R) (q : K) → contains s q ≡ list_any (eq_by_cmp R q) (items s)
  contains-items s q = finite.contains_key-keys s q

pub contains-empty : {K : Type 0} (R : K → K → Ordering) (q : K) → contains (empty {R = R}) q ≡ false
contains-empty R q = ap is_some (finite.get-empty R q)

module _ {K : Type 0} {R : K → K → Ordering} (o : IsTotalOrder R) where
  pub contains-insert : (s : SetOf R) (k q : K) → contains (insert s k) q ≡ (eq_by_cmp R q k || contains s q)
  contains-insert s k q = ap is_some (finite.get-insert o s k tt q) ∙ some_or _ _

  pub contains-from_list : (ks : List K) (q : K) → contains (from_list {R = R} ks) q ≡ list_any (eq_by_cmp R q) ks
  contains-from_list [] q = contains-empty R q
  contains-from_list (k ∷ ks) q = contains-insert _ k q ∙ ap (λ b. eq_by_cmp R q k || b) (contains-from_list ks q)

  pub contains-union : (s t : SetOf R) (q : K) → contains (union s t) q ≡ (contains s q || contains t q)
  unfolding union
  contains-union s t q =
      contains-from_list (items s ++ items t) q ∙ list_any-append (eq_by_cmp R q) (items s) (items t)
      ∙ ap (λ b. b || list_any (eq_by_cmp R q) (items t)) (sym (contains-items s q))
      ∙ ap (λ b. contains s q || b) (sym (contains-items t q))

  pub size-insert : (s : SetOf R) (k : K) → size (insert s k) ≡ cond (contains s k) (size s) (size s + 1)
  size-insert s k = finite.len-insert o s k tt

  module _ (same : IsAntisymmetric R) where
    pub same_set : (s t : SetOf R) → ((q : K) → contains s q ≡ contains t q) → s ≡ t
    same_set s t is = finite.same_map o same s t (λ q. marks _ ∙ ap marked (is q) ∙ sym (marks _))

    pub union_comm : (s t : SetOf R) → union s t ≡ union t s
    union_comm s t = same_set _ _ (λ q. contains-union s t q ∙ or_comm (contains s q) (contains t q) ∙ sym (contains-union t s q))

    pub union_assoc : (s t u : SetOf R) → union (union s t) u ≡ union s (union t u)
    union_assoc s t u = same_set _ _ (λ q.
        contains-union (union s t) u q ∙ ap (λ b. b || contains u q) (contains-union s t q) ∙ or_assoc (contains s q) (contains t q) (contains u q)
        ∙ ap (λ b. contains s q || b) (sym (contains-union t u q)) ∙ sym (contains-union s (union t u) q))

    pub union_same : (s : SetOf R) → union s s ≡ s
    union_same s = same_set _ _ (λ q. contains-union s s q ∙ or_self (contains s q))

    pub union_again : (s t : SetOf R) → union (union s t) t ≡ union s t
    union_again s t = same_set _ _ (λ q.
        contains-union (union s t) t q ∙ ap (λ b. b || contains t q) (contains-union s t q) ∙ or_absorbed (contains s q) (contains t q)
        ∙ sym (contains-union s t q))

    pub from_list-append : (xs ys : List K) → from_list {R = R} (xs ++ ys) ≡ union (from_list xs) (from_list ys)
    from_list-append xs ys = same_set _ _ (λ q.
        contains-from_list (xs ++ ys) q ∙ list_any-append (eq_by_cmp R q) xs ys
        ∙ ap (λ b. b || list_any (eq_by_cmp R q) ys) (sym (contains-from_list xs q))
        ∙ ap (λ b. contains (from_list {R = R} xs) q || b) (sym (contains-from_list ys q)) ∙ sym (contains-union (from_list xs) (from_list ys) q))

    pub from_list-items : (s : SetOf R) → from_list (items s) ≡ s
    from_list-items s = same_set _ _ (λ q. contains-from_list (items s) q ∙ sym (contains-items s q))

    pub union_empty : (s : SetOf R) → union s empty ≡ s
    union_empty s = same_set _ _ (λ q. contains-union s empty q ∙ ap (λ b. contains s q || b) (contains-empty R q) ∙ or-false (contains s q))

    pub union-push : (s : SetOf R) (xs : List K) (x : K) → union s (from_list (xs ++ x ∷ [])) ≡ insert (union s (from_list xs)) x
    union-push s xs x = same_set _ _ (λ q.
        contains-union s (from_list (xs ++ x ∷ [])) q
        ∙ ap (λ b. contains s q || b) (contains-from_list (xs ++ x ∷ []) q ∙ list_any-append (eq_by_cmp R q) xs (x ∷ [])
        ∙ ap (λ b. b || (eq_by_cmp R q x || false)) (sym (contains-from_list xs q)))
        ∙ or_moved (contains s q) (contains (from_list {R = R} xs) q) (eq_by_cmp R q x)
        ∙ ap (λ b. eq_by_cmp R q x || b) (sym (contains-union s (from_list xs) q)) ∙ sym (contains-insert (union s (from_list xs)) x q))
