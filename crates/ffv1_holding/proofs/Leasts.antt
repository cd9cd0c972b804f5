-- The least status of the slices before a place.
use Rattle.std.proofs.Common.{◌≡◌, ℕ, ◌+◌, ◌<◌, ◌≤◌, refl, [], ◌∷◌, List, length, get_or, Option, Some, None, MatchOption, sym, ap, ◌∙◌, inl, inr, arith}
use Rattle.std.proofs.lemmas.Bool.{cases_order}
use Rattle.std.proofs.lemmas.List.{get_or_default}
use Rattle.ffv1_holding.specs.TileState.{IsLeastStatus, status_of}

pub record IsLeast (xs : List (List ℕ)) (place least : ℕ) : Type 0 where
  pub low : (i : ℕ) (d : List ℕ) → i < place → least ≤ status_of (get_or xs i d)
  pub at : ℕ
  pub before : at < place
  pub met : (d : List ℕ) → status_of (get_or xs at d) ≡ least

abbrev pub LeastOf : List (List ℕ) → ℕ → Option ℕ → Type 0
LeastOf xs place least = MatchOption least (place ≡ 0) (λ m. IsLeast xs place m)

module _ (xs : List (List ℕ)) (i : ℕ) (e : List ℕ) (lt : i < length xs) where
  here : (d : List ℕ) → status_of (get_or xs i d) ≡ status_of (get_or xs i e)
  here d = ap status_of (get_or_default xs i d e lt)

  low_more : (m : ℕ) → ((j : ℕ) (d : List ℕ) → j < i → m ≤ status_of (get_or xs j d)) → m ≤ status_of (get_or xs i e) → (j : ℕ) (d : List ℕ) → j < i + 1
      → m ≤ status_of (get_or xs j d)
  low_more m low le j d lt_j = elim (cases_order j i) [
    | inl same ↦ rw same (omega (arith, here d))
    | inr (inl less) ↦ low j d less
    | inr (inr more) ↦ absurd (omega arith)
  ]

  pub least_kept : (m : ℕ) → IsLeast xs i m → m ≤ status_of (get_or xs i e) → IsLeast xs (i + 1) m
  least_kept m is le = record { low = low_more m is.low le; at = is.at; before = omega (arith, is.before); met = is.met }

  pub least_replaced : (m s : ℕ) → IsLeast xs i m → s < m → s ≡ status_of (get_or xs i e) → IsLeast xs (i + 1) s
  least_replaced m s is less same = record {
    low = low_more s (λ j d lt_j. let over = is.low j d lt_j in omega arith) (omega arith);
    at = i;
    before = omega arith;
    met = λ d. here d ∙ sym same;
  }

  pub least_first : (s : ℕ) → i ≡ 0 → s ≡ status_of (get_or xs i e) → IsLeast xs (i + 1) s
  least_first s none same = record {
    low = low_more s (λ j d lt_j. absurd (omega arith)) (omega arith);
    at = i;
    before = omega arith;
    met = λ d. here d
        ∙ sym same;
  }

-- at the end the least status of those passed is that of all
pub ended : (xs : List (List ℕ)) (place : ℕ) (o : Option ℕ) → length xs ≤ place → LeastOf xs place o → place ≤ length xs → IsLeastStatus xs o
ended [] place None all none few = refl
ended (x ∷ xs) place None all none few = absurd (omega arith)
ended xs place (Some m) all is few = record { low = λ i d lt. is.low i d (omega arith); at = is.at; in_range = omega (arith, is.before); met = is.met }
