-- How much the items of a set weigh together: those of a set that has them all weigh no less.
use Rattle.ffv1_hold.proofs.Common.{◌≡◌, ℕ, ◌+◌, ◌≤◌, true, List, [], ◌∷◌, length, map, refl, sym, ap, ◌∙◌, subst, arith, IsTotalOrder, IsAntisymmetric, put, by_order, Ordering, Less, Equal, Greater, union-insert, or_absorbed}
use Rattle.std.specs.FinMap as finite
use Rattle.ffv1_holding.specs.Sets as set

abbrev pub weight : {K : Type 0} → (K → ℕ) → List K → ℕ
weight w [] = 0
weight w (x ∷ xs) = w x + weight w xs

pub weight-pointwise : {K : Type 0} (w u : K → ℕ) (xs : List K) → ((x : K) → w x ≤ u x) → weight w xs ≤ weight u xs
weight-pointwise w u [] each = omega arith
weight-pointwise w u (x ∷ xs) each = omega (arith, each x, weight-pointwise w u xs each)

pub weight-ones : {K : Type 0} (xs : List K) → weight (λ _. 1) xs ≡ length xs
weight-ones [] = refl
weight-ones (x ∷ xs) = omega (arith, weight-ones xs)

module _ {K : Type 0} {R : K → K → Ordering} (o : IsTotalOrder R) (same : IsAntisymmetric R) (w : K → ℕ) where
  abbrev keys_of : List (K × Unit {0}) → List K
  keys_of es = map (λ p. p.0) es

  weight-order : (r : Ordering) (e : K) (p : K × Unit {0}) (ps more : List (K × Unit {0})) → weight w (keys_of ps) ≤ weight w (keys_of more)
      → weight w (keys_of (p ∷ ps)) ≤ weight w (keys_of (by_order r ((e, tt) ∷ p ∷ ps) ((p.0, tt) ∷ ps) (p ∷ more)))
  weight-order Less e p ps more grown = omega arith
  weight-order Equal e p ps more grown = omega arith
  weight-order Greater e p ps more grown = omega (arith, grown)

  weight-put : (e : K) (ps : List (K × Unit {0})) → weight w (keys_of ps) ≤ weight w (keys_of (put R e tt ps))
  weight-put e [] = omega arith
  weight-put e (p ∷ ps) = weight-order (R e p.0) e p ps (put R e tt ps) (weight-put e ps)

  weight-insert : (s : set.SetOf R) (e : K) → weight w (set.items s) ≤ weight w (set.items (set.insert s e))
  weight-insert s e = subst (λ ps. weight w (set.items s) ≤ weight w (keys_of ps)) (sym (finite.entries-insert o s e tt)) (weight-put e (finite.entries s))

  weight-list : (s : set.SetOf R) (es : List K) → weight w (set.items s) ≤ weight w (set.items (set.union s (set.from_list es)))
  weight-list s [] = subst (λ t. weight w (set.items s) ≤ weight w (set.items t)) (sym (set.union_empty o same s)) (omega arith)
  weight-list s (e ∷ es) = grind (arith, weight-insert, union-insert, weight-list s es)

  pub weight-more : (s t : set.SetOf R) → ((q : K) → set.contains s q ≡ true → set.contains t q ≡ true) → weight w (set.items s) ≤ weight w (set.items t)
  weight-more s t all =
      let whole : set.union s (set.from_list (set.items t)) ≡ t = ap (set.union s) (set.from_list-items o same t)
      ∙ set.same_set o same _ _ (λ q. set.contains-union o s t q ∙ or_absorbed _ _ (all q)) in
      subst (λ u. weight w (set.items s) ≤ weight w (set.items u)) whole (weight-list s (set.items t))
