-- Which slices are the best, and how one more changes how a tile stands.
use Rattle.std.proofs.Common.{◌≡◌, ℕ, zero, suc, ◌+◌, ◌<◌, ◌≤◌, ◌==◌, nat_le, Bool, true, false, cond, List, [], ◌∷◌, ◌++◌, length, get_or, take, sym, refl, ap, ◌∙◌, arith}
use Rattle.std.specs.List.{filter, list_all}
use Rattle.std.specs.Cmp.{both_ways}
use Rattle.std.proofs.lemmas.Bool.{eq-eqb, eqb-true, le-leb, leb-true, and_from, and_parts}
use Rattle.std.proofs.lemmas.List.{length-append, length-take, append-nil}
use Rattle.std.proofs.lemmas.List.Elements.{filter_more}
use Rattle.ffv1_holding.specs.TileState.{status_of, StateOfTile, missing, settled, disputed, best_slices, state_of_best, settled_bytes}
use Rattle.ffv1_holding.specs.TileStates.{state_shown}
use Rattle.ffv1_holding.specs.declared.standing.TileState.{TileState}
use Rattle.ffv1_holding.specs.declared.standing.TileState.TheVariants.{Missing, Settled, Disputed}

-- how a tile stands with one best slice more
abbrev pub one_more : StateOfTile → List ℕ → StateOfTile
one_more missing b = settled b
one_more (settled a) b = disputed 2
one_more (disputed n) b = disputed (n + 1)

pub state-push : (xs : List (List ℕ)) (b : List ℕ) → state_of_best (xs ++ b ∷ []) ≡ one_more (state_of_best xs) b
state-push [] b = refl
state-push (a ∷ []) b = refl
state-push (a ∷ c ∷ more) b = ap disputed (omega (arith, length-append more (b ∷ [])))

-- a tile that has not one best slice adds no bytes to a payload
pub settled_bytes-none : (state : TileState) → ((slice : _) → state ≡ Settled slice → ⊥) → settled_bytes (state_shown state) ≡ []
settled_bytes-none Missing other = refl
settled_bytes-none (Settled slice) other = absurd (other slice refl)
settled_bytes-none (Disputed count) other = refl

length-filter-le : {X : Type 0} (p : X → Bool) (xs : List X) → length (filter p xs) ≤ length xs
length-filter-le p [] = omega arith
length-filter-le p (x ∷ xs) = elim (p x) as (λ b. length (cond b (x ∷ filter p xs) (filter p xs)) ≤ suc (length xs)) [
  | true ↦ omega (arith, length-filter-le p xs)
  | false ↦ omega (arith, length-filter-le p xs)
]

pub count_disputed : (xs : List (List ℕ)) (n : ℕ) → state_of_best xs ≡ disputed n → n ≡ length xs
count_disputed [] n e = absurd (cc)
count_disputed (a ∷ []) n e = absurd (cc)
count_disputed (a ∷ c ∷ more) n e = let same : length more + 2 ≡ n = cc in omega arith

filter-same : {X : Type 0} (p q : X → Bool) (xs : List X) → ((i : ℕ) (d : X) → i < length xs → p (get_or xs i d) ≡ q (get_or xs i d))
    → filter p xs ≡ filter q xs
filter-same p q [] same = refl
filter-same p q (x ∷ xs) same =
    ap (λ b. cond b (x ∷ filter p xs) (filter p xs)) (same 0 x (omega arith))
    ∙ ap (λ r. cond (q x) (x ∷ r) r) (filter-same p q xs (λ i d lt. same (suc i) d (omega arith)))

all_from : {X : Type 0} (p : X → Bool) (xs : List X) → ((i : ℕ) (d : X) → i < length xs → p (get_or xs i d) ≡ true) → list_all p xs ≡ true
all_from p [] each = refl
all_from p (x ∷ xs) each = and_from (p x) (list_all p xs) (each 0 x (omega arith)) (all_from p xs (λ i d lt. each (suc i) d (omega arith)))

all_at : {X : Type 0} (p : X → Bool) (xs : List X) (i : ℕ) (d : X) → list_all p xs ≡ true → i < length xs → p (get_or xs i d) ≡ true
all_at p [] i d all lt = absurd (omega arith)
all_at p (x ∷ xs) zero d all lt = (and_parts (p x) (list_all p xs) all).0
all_at p (x ∷ xs) (suc i) d all lt = all_at p xs i d ((and_parts (p x) (list_all p xs) all).1) (omega arith)

-- the best slices are those of the least status
module _ (xs : List (List ℕ)) (least : ℕ) (low : (i : ℕ) (d : List ℕ) → i < length xs → least ≤ status_of (get_or xs i d)) (at : ℕ) (lt : at < length xs)
    (met : (d : List ℕ) → status_of (get_or xs at d) ≡ least) where
  is_best : (i : ℕ) (d : List ℕ) → i < length xs → (status_of (get_or xs i d) == least) ≡ list_all (λ c. nat_le (status_of (get_or xs i d)) (status_of c)) xs
  is_best i d in_range = both_ways _ _
      (λ here. all_from _ xs (λ j e in_range_j. le-leb _ _ (let same = eqb-true _ _ here in let below = low j e in_range_j in omega arith)))
      (λ all. eq-eqb _ _ (let under = leb-true _ _ (all_at (λ c. nat_le (status_of (get_or xs i d)) (status_of c)) xs at d all lt) in
      let over = low i d in_range in let is = met d in omega arith))

  pub filter-best : filter (λ b. status_of b == least) xs ≡ best_slices xs
  filter-best = filter-same _ _ xs is_best

pub state_none : (xs : List (List ℕ)) → length xs ≡ 0 → missing ≡ state_of_best (best_slices xs)
state_none [] e = refl
state_none (x ∷ xs) e = absurd (omega arith)

-- one slice more is passed, and it is of the least status or it isn't
module _ (least : ℕ) (xs : List (List ℕ)) (i : ℕ) (d : List ℕ) (lt : i < length xs) where
  pub passed_best : (s t : StateOfTile) → s ≡ state_of_best (filter (λ b. status_of b == least) (take i xs)) → status_of (get_or xs i d) ≡ least
      → t ≡ one_more s (get_or xs i d) → t ≡ state_of_best (filter (λ b. status_of b == least) (take (i + 1) xs))
  passed_best s t is best next =
      next ∙ ap (λ x. one_more x (get_or xs i d)) is ∙ sym (state-push (filter (λ b. status_of b == least) (take i xs)) (get_or xs i d))
      ∙ ap (λ b. state_of_best (filter (λ b. status_of b == least) (take i xs) ++ cond b (get_or xs i d ∷ []) [])) (sym (eq-eqb _ _ best))
      ∙ ap state_of_best (sym (filter_more (λ b. status_of b == least) xs i d lt))

  pub passed_other : (s : StateOfTile) → s ≡ state_of_best (filter (λ b. status_of b == least) (take i xs)) → (status_of (get_or xs i d) == least) ≡ false
      → s ≡ state_of_best (filter (λ b. status_of b == least) (take (i + 1) xs))
  passed_other s is other =
      is ∙ ap state_of_best (sym (append-nil (filter (λ b. status_of b == least) (take i xs))))
      ∙ ap (λ b. state_of_best (filter (λ b. status_of b == least) (take i xs) ++ cond b (get_or xs i d ∷ []) [])) (sym other)
      ∙ ap state_of_best (sym (filter_more (λ b. status_of b == least) xs i d lt))

  -- several are no more than were passed
  pub few_disputed : (n : ℕ) → disputed n ≡ state_of_best (filter (λ b. status_of b == least) (take i xs)) → n ≤ i
  few_disputed n is =
      omega (
        arith,
        count_disputed (filter (λ b. status_of b == least) (take i xs)) n (sym is),
        length-filter-le (λ b. status_of b == least)
            (take i xs),
        length-take i xs,
      )
