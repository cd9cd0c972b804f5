-- What is made of each member of a list.
use Rattle.ffv1_weave.proofs.Common.{◌≡◌, ℕ, ◌<◌, List, [], length, get_or, map, sym, ap, ◌∙◌, subst, arith, Contains, get_or-map, length-map, Contains-get_or, HasSameMembers}

module _ (f : List ℕ → List ℕ) where
  pub mapped_there : (xs : List (List ℕ)) (x : List ℕ) → Contains xs x → Contains (map f xs) (f x)
  mapped_there xs x there = (there.0, omega (arith, there.1, length-map xs f), get_or-map f xs there.0 x (f x) there.1 ∙ ap f there.2)

  pub mapped_of : (xs : List (List ℕ)) (y : List ℕ) → Contains (map f xs) y → (x : List ℕ) × Contains xs x × (y ≡ f x)
  mapped_of xs y there =
      let lt : there.0 < length xs = omega (arith, there.1, length-map xs f) in
      (get_or xs there.0 [], Contains-get_or xs there.0 [] lt, sym there.2 ∙ get_or-map f xs there.0 [] y lt)

  mapped_on : (xs ys : List (List ℕ)) → ((x : List ℕ) → Contains xs x → Contains ys x) → (y : List ℕ) → Contains (map f xs) y → Contains (map f ys) y
  mapped_on xs ys on y there =
      let of = mapped_of xs y there in subst (Contains (map f ys)) (sym of.2) (mapped_there ys of.0 (on of.0 of.1))

  -- the same of the same members
  pub same_mapped : (xs ys : List (List ℕ)) → HasSameMembers xs ys → HasSameMembers (map f xs) (map f ys)
  same_mapped xs ys same y = (mapped_on xs ys (λ x. (same x).0) y, mapped_on ys xs (λ x. (same x).1) y)
