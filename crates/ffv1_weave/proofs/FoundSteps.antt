-- What is found among byte strings that are tried, as they become more.
use Rattle.ffv1_weave.proofs.Common.{◌≡◌, ℕ, zero, suc, ◌<◌, List, ◌∷◌, length, get_or, arith, inl, inr, ◌⊎◌, Contains, IsOnly, IsOfTwo, IsOfNone, Contains-head, Contains-cons, PassesBy, PassesAmong, IsFoundAmong, Check, Found}
use Rattle.ffv1_weave.specs.declared.found.Found.TheVariants as found

-- ---- the same fact, said in another way

pub two_as : {X : Type 0} (P Q : X → Type 0) → ((value : X) → P value → Q value) → IsOfTwo P → IsOfTwo Q
two_as P Q to two = grind arith

module _ {X : Type 0} (P Q : X → Type 0) (to : (value : X) → P value → Q value) (from : (value : X) → Q value → P value) where
  pub none_as : IsOfNone P → IsOfNone Q
  none_as none value h = none value (from value h)

  pub only_as : (value : X) → IsOnly P value → IsOnly Q value
  only_as value only = record { there = to value only.there; others = λ other h. only.others other (from other h) }

-- ---- one more

module _ {X : Type 0} (first : X) (xs : List X) where
  one_of : (x : X) (i : ℕ) → i < length (first ∷ xs) → get_or (first ∷ xs) i x ≡ x → (first ≡ x) ⊎ Contains xs x
  one_of x zero lt is = inl is
  one_of x (suc i) lt is = inr (i, omega arith, is)

  pub more_cases : (x : X) → Contains (first ∷ xs) x → (first ≡ x) ⊎ Contains xs x
  more_cases x there = one_of x there.0 there.1 there.2

module _ (check : Check) (bytes : List ℕ) (tried : List (List ℕ)) where
  found_before : (other : List ℕ) → PassesAmong check tried other → PassesAmong check (bytes ∷ tried) other
  found_before other h = record { there = Contains-cons bytes other tried h.there; passes = h.passes }

  found_apart : (PassesBy check bytes → ⊥) → (other : List ℕ) → PassesAmong check (bytes ∷ tried) other → PassesAmong check tried other
  found_apart fails other h = grind (arith, more_cases)

  -- one that doesn't pass changes nothing
  pub found_skipped : (PassesBy check bytes → ⊥) → (what : Found) → IsFoundAmong check tried what → IsFoundAmong check (bytes ∷ tried) what
  found_skipped fails found.Nothing h = none_as (PassesAmong check tried) (PassesAmong check (bytes ∷ tried)) found_before (found_apart fails) h
  found_skipped fails (found.One one) h = grind (arith, only_as, found_before, found_apart)
  found_skipped fails found.Several h = two_as (PassesAmong check tried) (PassesAmong check (bytes ∷ tried)) found_before h

  -- another that passes is the second
  pub found_another : PassesBy check bytes → (one : List ℕ) → (one ≡ bytes → ⊥) → IsOnly (PassesAmong check tried) one
      → IsOfTwo (PassesAmong check (bytes ∷ tried))
  found_another passes one differ only = grind (arith, found_before, Contains-head)

  pub found_still : IsOfTwo (PassesAmong check tried) → IsOfTwo (PassesAmong check (bytes ∷ tried))
  found_still = two_as (PassesAmong check tried) (PassesAmong check (bytes ∷ tried)) found_before
