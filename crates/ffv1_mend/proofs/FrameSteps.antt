-- The product of the numbers of a frame's places, as far as it is counted.
use Rattle.std.proofs.Common.{◌≡◌, ℕ, zero, suc, ◌+◌, ◌*◌, ◌<◌, List, [], ◌∷◌, ◌++◌, length, get_or, take, map, min, refl, sym, ap, ◌∙◌, arith, inl, inr}
use Rattle.std.proofs.Math.Nat.{mul_assoc, le-mul_of_pos_right}
use Rattle.std.proofs.lemmas.Bool.{cases_lt}
use Rattle.std.proofs.lemmas.List.{take_more, map-append}
use Rattle.ffv1_splice.specs.declared.place.Standing.{Standing}
use Rattle.ffv1_splice.specs.declared.place.Standing.TheVariants.{Settled, Woven, Voted, Repaired, Disputed, Missing, Undivided}
use Rattle.ffv1_splice.specs.declared.place.Place.{Place}
use Rattle.ffv1_mend.specs.Mended.{count_at, product}

product-push : (numbers : List ℕ) (n : ℕ) → product (numbers ++ n ∷ []) ≡ product numbers * n
product-push [] n = omega arith
product-push (m ∷ numbers) n = ap (λ p. m * p) (product-push numbers n) ∙ sym (mul_assoc m (product numbers) n)

-- what was cut before is cut after
min_product : (p c most : ℕ) → min (min p most * c) most ≡ min (p * c) most
min_product p zero most = omega arith
min_product p (suc c) most = elim (cases_lt most p) [
  | inl over ↦
      let cut : min p most ≡ most = omega arith in
      let far = le-mul_of_pos_right {m = suc c} p (omega arith) in
      let most_far = le-mul_of_pos_right {m = suc c} most (omega arith) in
      ap (λ m. min (m * suc c) most) cut ∙ omega arith
  | inr below ↦ let whole : min p most ≡ p = omega arith in ap (λ m. min (m * suc c) most) whole
]

count_of_other : (standing : Standing) → ((count : ℕ) → standing ≡ Woven count → ⊥) → count_at standing ≡ 1
count_of_other Settled apart = refl
count_of_other (Woven count) apart = absurd (apart count refl)
count_of_other (Voted count) apart = refl
count_of_other (Repaired count) apart = refl
count_of_other Disputed apart = refl
count_of_other Missing apart = refl
count_of_other Undivided apart = refl

module _ (places : List Place) (i : ℕ) (place : Place) (lt : i < length places) where
  pub counted : (count next most : ℕ) → count ≡ min (product (map (λ one. count_at one.standing) (take i places))) most
      → next ≡ min (count * count_at (get_or places i place).standing) most
      → next ≡ min (product (map (λ one. count_at one.standing) (take (i + 1) places))) most
  counted count next most so_far made =
      let counts = λ (one : Place). count_at one.standing in
      let before : ℕ = product (map counts (take i places)) in
      let here : ℕ = count_at (get_or places i place).standing in
      let more : product (map counts (take (i + 1) places)) ≡ before * here =
      ap (λ some. product (map counts some)) (take_more places i place lt)
      ∙ ap product (map-append counts (take i places) (get_or places i place ∷ [])) ∙ product-push (map counts (take i places)) here in
      made ∙ ap (λ n. min (n * here) most) so_far ∙ min_product before here most ∙ ap (λ p. min p most) (sym more)

  pub counted_other : (count next most : ℕ) → count ≡ min (product (map (λ one. count_at one.standing) (take i places))) most
      → ((n : ℕ) → (get_or places i place).standing ≡ Woven n → ⊥) → next ≡ count
      → next ≡ min (product (map (λ one. count_at one.standing) (take (i + 1) places))) most
  counted_other count next most so_far other is =
      let kept : count ≡ min (count * 1) most = omega arith in
      counted count next most so_far
      (is ∙ kept ∙ ap (λ n. min (count * n) most) (sym (count_of_other (get_or places i place).standing other)))
