-- Values, as the code has them: by references, in a list that is gone over.
use Rattle.ffv1_weave.proofs.Common.{◌≡◌, ℕ, ◌+◌, ◌<◌, ◌≤◌, List, [], ◌∷◌, ◌++◌, Bor, length, get_or, take, arith, rules, All, Contains, values_of, take_more, take_all, get_or-map, length-map, All-contains, All-map, Contains-get_or}

-- a reference where there is none, to no bytes
abbrev pub nowhere : Bor (List ℕ)
nowhere = record { ref_ptr = (0, 0); now = [] }

module _ {A : Type 0} (references : List (Bor A)) where
  pub length-values_of : length (values_of references) ≡ length references
  length-values_of = length-map references (λ reference. reference.now)

  pub value_at : (i : ℕ) (d : Bor A) (e : A) → i < length references → get_or (values_of references) i e ≡ (get_or references i d).now
  value_at i d e h = get_or-map (λ (reference : Bor A). reference.now) references i d e h

  -- the first values, and the next one
  pub next_value : (i : ℕ) (d : Bor A) → i < length references
      → take i (values_of references) ++ (get_or references i d).now ∷ [] ≡ take (i + 1) (values_of references)
  next_value i d h = cc (value_at i d d.now h, take_more (values_of references) i d.now (omega (arith, length-values_of)))

  pub all_values : (n : ℕ) → length references ≤ n → take n (values_of references) ≡ values_of references
  all_values n h = take_all n (values_of references) (omega (arith, length-values_of))

  pub value_there : (i : ℕ) (d : Bor A) → i < length references → Contains (values_of references) (get_or references i d).now
  value_there i d h = search (rules, value_at, Contains-get_or, length-values_of)

  -- what is so of each reference is so of each value
  pub each_value : (P : A → Type 0) → All (λ reference. P reference.now) references → (value : A) → Contains (values_of references) value → P value
  each_value P h value there = All-contains P (values_of references) value (All-map P (λ (reference : Bor A). reference.now) references h) there
