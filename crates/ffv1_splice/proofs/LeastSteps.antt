-- The lexicographically smallest bytes that a copy has between two places, copy after copy.
use Rattle.ffv1_splice.proofs.Common.{◌≡◌, ℕ, ◌+◌, ◌<◌, Bool, true, false, List, [], length, Bor, get_or, refl, sym, ap, ◌∙◌, subst, arith, cond, inl, inr, ◌⊎◌, Contains, slice_range, nat_cmp, ord_min, is_lt, ordering_reverse, cases_lt, get_or_default, Contains-get_or, slice_cmp, nat_cmp-IsAntisymmetric, slice_cmp-IsAntisymmetric, nat_list_cmp_total, tied_itself, Ordering, Less, Equal, Greater}

pub never_below_itself : (x : List ℕ) → slice_cmp nat_cmp x x ≡ Less → ⊥
never_below_itself x h = let tied = tied_itself nat_list_cmp_total x in let apart : Less ≡ Equal = sym h ∙ tied in absurd (cc)

-- two of which neither is below the other are the same
pub same_if_neither_below : (x y : List ℕ) → (slice_cmp nat_cmp x y ≡ Less → ⊥) → (slice_cmp nat_cmp y x ≡ Less → ⊥) → x ≡ y
same_if_neither_below x y h k =
    elim (slice_cmp nat_cmp x y) as (λ o. slice_cmp nat_cmp x y ≡ o → x ≡ y) [
      | Less ↦ λ e. absurd (h e)
      | Equal ↦ λ e. slice_cmp-IsAntisymmetric nat_cmp-IsAntisymmetric x y e
      | Greater ↦ λ e. absurd (k (nat_list_cmp_total.antisymm y x ∙ ap ordering_reverse e))
    ] refl

-- the smallest bytes of the first copies
pub record IsLeastSoFar (copies : List (List ℕ)) (count start end : ℕ) (bytes : List ℕ) : Type 0 where
  pub copy : List ℕ
  pub there : Contains copies copy
  pub lies : bytes ≡ slice_range copy start end
  pub least : (k : ℕ) (d : List ℕ) → k < count → slice_cmp nat_cmp (slice_range (get_or copies k d) start end) bytes ≡ Less → ⊥

is_less : (o : Ordering) → is_lt o ≡ true → o ≡ Less
is_less Less h = refl
is_less Equal h = absurd (cc)
is_less Greater h = absurd (cc)

-- the lesser of two, and what is not below it
pub least_or : (found new : List ℕ) (b : Bool) → is_lt (slice_cmp nat_cmp new found) ≡ b → (other : List ℕ)
    → (slice_cmp nat_cmp other found ≡ Less → ⊥) ⊎ (other ≡ new) → slice_cmp nat_cmp other (cond b new found) ≡ Less → ⊥
least_or found new true e other cases below =
    let new_below : slice_cmp nat_cmp new found ≡ Less = is_less (slice_cmp nat_cmp new found) e in
    elim cases [
      | inl above ↦ above (nat_list_cmp_total.trans other new found below new_below)
      | inr same ↦ never_below_itself new (subst (λ z. slice_cmp nat_cmp z new ≡ Less) same below)
    ]
least_or found new false e other cases below = grind arith

lies_or : (copies : List (List ℕ)) (start end : ℕ) (found new : List ℕ) (b : Bool) (P : List ℕ → Type 0) → P found → P new → P (cond b new found)
lies_or copies start end found new true P h k = k
lies_or copies start end found new false P h k = h

module _ (copies : List (List ℕ)) (start end : ℕ) where
  -- the bytes are those of some copy
  pub IsOfCopy : List ℕ → Type 0
  IsOfCopy bytes = (copy : List ℕ) × Contains copies copy × (bytes ≡ slice_range copy start end)

  pub least_more : (count : ℕ) (found new : List ℕ) → count < length copies → new ≡ slice_range (get_or copies count []) start end
      → IsLeastSoFar copies count start end found → IsLeastSoFar copies (count + 1) start end (cond (is_lt (slice_cmp nat_cmp new found)) new found)
  unfolding IsOfCopy
  least_more count found new lt is h = grind (arith, IsOfCopy, lies_or, Contains-get_or, least_or, cases_lt, get_or_default)

-- the lesser of two lists, by references
pub ord_min-now : (result found new : Bor (List ℕ)) → result ≡ ord_min (λ x y. slice_cmp nat_cmp x.now y.now) found new
    → result.now ≡ cond (is_lt (slice_cmp nat_cmp new.now found.now)) new.now found.now
ord_min-now result found new e = grind arith
