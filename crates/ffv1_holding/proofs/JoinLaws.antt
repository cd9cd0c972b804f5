-- Values joined one after another come to the same in whatever order they stand, and however often.
use Rattle.std.proofs.Common.{◌≡◌, ℕ, zero, suc, ◌<◌, List, [], ◌∷◌, length, get_or, Contains, refl, sym, ap, ◌∙◌, arith}
use Rattle.ffv1_slice.proofs.Links.{Contains-head, Contains-cons}
use Rattle.ffv1_holding.specs.Joins.{joined_all}

-- the laws, and values of which any two can be joined
module _ {T : Type 0} (joinable : T → T → Type 0) (union : T → T → T)
    (commutes : (a b : T) → joinable a b → union a b ≡ union b a)
    (groups : (a b c : T) → joinable a b → joinable b c → union (union a b) c ≡ union a (union b c))
    (repeats : (a b : T) → union (union a b) b ≡ union a b)
    (stays_joinable : (a b c : T) → joinable a b → joinable a c → joinable (union a b) c)
    (IsOne : T → Type 0)
    (pairs : (a b : T) → IsOne a → IsOne b → joinable a b) where
  -- each of the values can be joined into this one
  abbrev Accepts : T → Type 0
  Accepts a = (x : T) → IsOne x → joinable a x

  -- the list is of the values
  abbrev AreOnes : List T → Type 0
  AreOnes xs = (x : T) → Contains xs x → IsOne x

  accepts_more : (a x : T) → Accepts a → IsOne x → Accepts (union a x)
  accepts_more a x accepts is y also = stays_joinable a x y (accepts x is) (accepts y also)

  rest_ones : (x : T) (xs : List T) → AreOnes (x ∷ xs) → AreOnes xs
  rest_ones x xs ones y is = ones y (Contains-cons x y xs is)

  swapped : (a x y : T) → Accepts a → IsOne x → IsOne y → union (union a x) y ≡ union (union a y) x
  swapped a x y accepts is also =
      groups a x y (accepts x is) (pairs x y is also) ∙ ap (union a) (commutes x y (pairs x y is also))
      ∙ sym (groups a y x (accepts y also) (pairs y x also is))

  -- what is joined first may be joined last
  moved : (a x : T) (xs : List T) → Accepts a → IsOne x → AreOnes xs → joined_all union (union a x) xs ≡ union (joined_all union a xs) x
  moved a x [] accepts is ones = refl
  moved a x (y ∷ xs) accepts is ones =
      let this = ones y (Contains-head y xs) in
      ap (λ b. joined_all union b xs) (swapped a x y accepts is this)
      ∙ moved (union a y) x xs (accepts_more a y accepts this) is (rest_ones y xs ones)

  -- what is joined already changes nothing
  absorbed : (a x : T) (xs : List T) (k : ℕ) → k < length xs → get_or xs k x ≡ x → Accepts a → AreOnes xs
      → union (joined_all union a xs) x ≡ joined_all union a xs
  absorbed a x [] k lt at accepts ones = absurd (omega arith)
  absorbed a x (y ∷ xs) zero lt at accepts ones =
      let this = ones y (Contains-head y xs) in
      ap (union (joined_all union (union a y) xs)) (sym at)
      ∙ sym (moved (union a y) y xs (accepts_more a y accepts this) this (rest_ones y xs ones))
      ∙ ap (λ b. joined_all union b xs) (repeats a y)
  absorbed a x (y ∷ xs) (suc k) lt at accepts ones =
      absorbed (union a y) x xs k (omega arith) at (accepts_more a y accepts (ones y (Contains-head y xs))) (rest_ones y xs ones)

  all_absorbed : (a : T) (xs ys : List T) → Accepts a → AreOnes xs → ((x : T) → Contains ys x → Contains xs x)
      → joined_all union (joined_all union a xs) ys ≡ joined_all union a xs
  all_absorbed a xs [] accepts ones within = refl
  all_absorbed a xs (y ∷ ys) accepts ones within =
      let there = within y (Contains-head y ys) in
      ap (λ b. joined_all union b ys) (absorbed a y xs there.0 there.1 there.2 accepts ones)
      ∙ all_absorbed a xs ys accepts ones (λ x is. within x (Contains-cons y x ys is))

  lists_swapped : (a : T) (xs ys : List T) → Accepts a → AreOnes xs → AreOnes ys
      → joined_all union (joined_all union a xs) ys ≡ joined_all union (joined_all union a ys) xs
  lists_swapped a xs [] accepts ones others = refl
  lists_swapped a xs (y ∷ ys) accepts ones others =
      let this = others y (Contains-head y ys) in
      ap (λ b. joined_all union b ys) (sym (moved a y xs accepts this ones))
      ∙ lists_swapped (union a y) xs ys (accepts_more a y accepts this) ones (rest_ones y ys others)

  -- lists of the same members come to the same
  pub joined_all-same : (a : T) (xs ys : List T) → Accepts a → AreOnes xs → AreOnes ys → ((x : T) → Contains xs x → Contains ys x)
      → ((x : T) → Contains ys x → Contains xs x) → joined_all union a xs ≡ joined_all union a ys
  joined_all-same a xs ys accepts ones others within back =
      sym (all_absorbed a xs ys accepts ones back) ∙ lists_swapped a xs ys accepts ones others ∙ all_absorbed a ys xs accepts others within
