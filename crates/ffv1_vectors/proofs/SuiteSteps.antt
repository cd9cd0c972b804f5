-- Frames of the suite as they are made, tile by tile and plane by plane.
use Rattle.std.proofs.Common.{◌≡◌, ℕ, ◌+◌, ◌<◌, List, [], ◌∷◌, ◌++◌, length, get_or, sym, ap, subst, ◌∙◌, inl, inr, arith}
use Rattle.std.proofs.lemmas.Bool.{cases_order}
use Rattle.std.proofs.lemmas.List.{get_or_append_left}
use Rattle.std.proofs.Math.Seq.{get_or-append_seam}
use Rattle.ffv1_vectors.specs.Suite.{IsSuitePlane}
use Rattle.ffv1_vectors.specs.declared.suite.SuiteContent.{SuiteContent}

-- What holds of each element holds with one more after them of which it holds.
pub each_more : {X : Type 0} (P : ℕ → X → Type 0) (n : ℕ) (old new : List X) (x d : X) → length old ≡ n → new ≡ old ++ x ∷ []
    → ((k : ℕ) → k < n → P k (get_or old k d)) → P n x → (k : ℕ) → k < n + 1 → P k (get_or new k d)
each_more P n old new x d count grown before here k lt = elim (cases_order k n) [
  | inl is ↦
      let last : get_or new k d ≡ x =
      ap (λ xs. get_or xs k d) grown ∙ ap (λ i. get_or (old ++ x ∷ []) i d) (is ∙ sym count) ∙ get_or-append_seam old x [] d in
      subst (P k) (sym last) (subst (λ i. P i x) (sym is) here)
  | inr (inl less) ↦
      let same : get_or new k d ≡ get_or old k d =
      ap (λ xs. get_or xs k d) grown ∙ get_or_append_left old (x ∷ []) d k (omega arith) in
      subst (P k) (sym same) (before k less)
  | inr (inr above) ↦ absurd (omega arith)
]

-- A plane of some length is one of its own length.
pub of_own_length : (content : SuiteContent) (first count : ℕ) (samples : List ℕ) → IsSuitePlane content first count samples
    → IsSuitePlane content first (length samples) samples
of_own_length content first count samples h = subst (λ n. IsSuitePlane content first n samples) (sym h.many) h
