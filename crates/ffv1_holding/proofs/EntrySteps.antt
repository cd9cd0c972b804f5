-- What one more item, or another set, does to a fact of each item of a set.
use Rattle.std.proofs.Common.{◌≡◌, ℕ, zero, suc, ◌<◌, Bool, true, false, ◌||◌, List, [], ◌∷◌, length, get_or, sym, refl, ap, subst, ◌∙◌, arith}
use Rattle.std.proofs.lemmas.Bool.{or_left, or_right}
use mathlib.Core.Bool.{true≢false}
use Rattle.std.specs.Ordering.{eq_by_cmp, is_eq}
use Rattle.std.specs.Cmp.{IsTotalOrder, tied_itself, Equal-is}
use Rattle.std.specs.FinMap.{IsAntisymmetric}
use Rattle.std.specs.declared.cmp.Ordering.{Ordering}
use Rattle.ffv1_holding.specs.Sets as set

pub or_cases : (a b : Bool) (P : Type 0) → (a || b) ≡ true → (a ≡ true → P) → (b ≡ true → P) → P
or_cases true b P h f g = f refl
or_cases false b P h f g = g h

module _ {K : Type 0} {R : K → K → Ordering} (o : IsTotalOrder R) (same : IsAntisymmetric R) where
  -- a fact of each item holds after an addition
  pub all-insert : (P : K → Type 0) (s : set.SetOf R) (e : K) → ((q : K) → set.contains s q ≡ true → P q) → P e → (q : K)
      → set.contains (set.insert s e) q ≡ true → P q
  all-insert P s e all here q there =
      or_cases (eq_by_cmp R q e) (set.contains s q) (P q) (sym (set.contains-insert o s e q) ∙ there)
      (λ tie. subst P (sym (same q e ((Equal-is (R q e)).0 tie))) here)
      (all q)

  -- a fact of the items of both holds of those of the union
  pub all-union : (P : K → Type 0) (s t : set.SetOf R) → ((q : K) → set.contains s q ≡ true → P q)
      → ((q : K) → set.contains t q ≡ true → P q) → (q : K) → set.contains (set.union s t) q ≡ true → P q
  all-union P s t all also q there = or_cases (set.contains s q) (set.contains t q) (P q) (sym (set.contains-union o s t q) ∙ there) (all q) (also q)

  -- a fact of each item of a list is one of each member of its set
  pub all-from_list : (P : K → Type 0) (xs : List K) → ((i : ℕ) (d : K) → i < length xs → P (get_or xs i d)) → (q : K)
      → set.contains (set.from_list {R = R} xs) q ≡ true → P q
  all-from_list P [] each q there = absurd (true≢false (sym there ∙ set.contains-empty R q))
  all-from_list P (x ∷ xs) each q there =
      all-insert P (set.from_list xs) x (all-from_list P xs (λ i d lt. each (suc i) d (omega arith))) (each 0 x (omega arith)) q there

-- each item of a list is in its set
pub contains_listed : {K : Type 0} {R : K → K → Ordering} (o : IsTotalOrder R) → (xs : List K) (i : ℕ) (d : K) → i < length xs
    → set.contains (set.from_list {R = R} xs) (get_or xs i d) ≡ true
contains_listed o [] i d lt = absurd (omega arith)
contains_listed o (x ∷ xs) zero d lt = set.contains-insert o (set.from_list xs) x x ∙ or_left _ _ (ap is_eq (tied_itself o x))
contains_listed o (x ∷ xs) (suc i) d lt =
    set.contains-insert o (set.from_list xs) x (get_or xs i d) ∙ or_right _ _ (contains_listed o xs i d (omega arith))
