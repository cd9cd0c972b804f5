-- How far up places can be settled: one copy more, and what the bound is.
use Rattle.ffv1_splice.proofs.Common.{◌≡◌, ℕ, ◌<◌, ◌≤◌, List, [], ◌∷◌, ◌++◌, refl, sym, ◌∙◌, subst, arith, inl, inr, slice_range, PassesParity, FooterGives, LinkValue, link_of, HasContent, IsPiece, IsBound}
use Rattle.ffv1_splice.proofs.TallySteps.{last, piece_on, piece_back, one_cut}

-- ---- what it is

pub bound_within : (copies : List (List ℕ)) (end bound : ℕ) → IsBound copies end bound → bound ≤ end
bound_within copies end bound (inl h) = omega (arith, h.1)
bound_within copies end bound (inr h) = let content : HasContent h.0.start end = h.1.content in let starts = h.2 in omega arith

pub one_bound : (copies : List (List ℕ)) (end a b : ℕ) → IsBound copies end a → IsBound copies end b → a ≡ b
one_bound copies end a b (inl h) (inl k) = h.1 ∙ sym k.1
one_bound copies end a b (inl h) (inr k) = absurd (h.0 k.0 k.1)
one_bound copies end a b (inr h) (inl k) = absurd (k.0 h.0 h.1)
one_bound copies end a b (inr h) (inr k) =
    let low = h.3 k.0 k.1 in let high = k.3 h.0 h.1 in let mine = h.2 in let yours = k.2 in omega arith

-- ---- one copy more

module _ (copies : List (List ℕ)) (copy : List ℕ) (end bound : ℕ) where
  -- a copy that has no piece there
  bound_same : ((piece : LinkValue) → IsPiece (copies ++ copy ∷ []) end piece → IsPiece copies end piece) → IsBound copies end bound
      → IsBound (copies ++ copy ∷ []) end bound
  bound_same back (inl h) = inl (λ piece k. h.0 piece (back piece k), h.1)
  bound_same back (inr h) = inr (h.0, piece_on copies copy end h.0 h.1, h.2, λ other k. h.3 other (back other k))

  pub bound_uncut : ((start : ℕ) → FooterGives copy start end → HasContent start end → ⊥) → IsBound copies end bound → IsBound (copies ++ copy ∷ []) end bound
  bound_uncut none =
      bound_same (λ piece k. elim (piece_back copies copy end piece k) [ inl old ↦ old | inr new ↦ absurd (none piece.start new.0 new.1) ])

  -- nor has one that fails its parity
  pub bound_failed : (start : ℕ) → FooterGives copy start end → (PassesParity (slice_range copy start end) → ⊥) → IsBound copies end bound
      → IsBound (copies ++ copy ∷ []) end bound
  bound_failed start cut fails =
      bound_same (λ piece k. elim (piece_back copies copy end piece k) [
        | inl old ↦ old
        | inr new ↦ absurd (fails (subst (λ s. PassesParity (slice_range copy s end)) (one_cut copies copy end start piece.start cut new.0) new.3))
      ])

  module _ (start : ℕ) (cut : FooterGives copy start end) (content : HasContent start end) where
    same_start : (piece : LinkValue) → IsPiece (copies ++ copy ∷ []) end piece → (IsPiece copies end piece → start ≤ piece.start) → start ≤ piece.start
    same_start piece k old =
        elim (piece_back copies copy end piece k) [
          | inl h ↦ old h
          | inr new ↦ let same = one_cut copies copy end start piece.start cut new.0 in omega arith
        ]

    -- one whose piece, if it is one, begins no earlier
    pub bound_stays : bound ≤ start → IsBound copies end bound → IsBound (copies ++ copy ∷ []) end bound
    bound_stays late (inl h) = absurd (omega (arith, h.1))
    bound_stays late (inr h) = inr (
      h.0,
      piece_on copies copy end h.0 h.1,
      h.2,
      λ other k. elim (piece_back copies copy end other k) [
        | inl old ↦ h.3 other old
        | inr new ↦ let same = one_cut copies copy end start other.start cut new.0 in omega arith
      ],
    )

    -- one whose piece begins earlier
    pub bound_lower : PassesParity (slice_range copy start end) → start < bound → IsBound copies end bound → IsBound (copies ++ copy ∷ []) end start
    bound_lower passes early h =
        inr (
          link_of copy start end,
          record { copy = copy; there = last copies copy end; cut = cut; content = content; bytes = refl; passes = passes },
          refl,
          λ other k. same_start other k (λ old. least other old h),
        )
      where
        least : (other : LinkValue) → IsPiece copies end other → IsBound copies end bound → start ≤ other.start
        least other old (inl none) = absurd (none.0 other old)
        least other old (inr some) = let at = some.3 other old in omega arith
