-- The pieces that end at a place, and the starts that are claimed there, with one more copy.
use Rattle.ffv1_splice.proofs.Common.{◌≡◌, ℕ, List, [], ◌∷◌, ◌++◌, refl, ap, ◌∙◌, subst, arith, inl, inr, ◌⊎◌, Contains, slice_range, Contains-append_left, Contains-append_right, Contains-append_cases, PassesParity, FooterGives, LinkValue, link_of, HasContent, IsPiece, IsClaimedStart, alone, two_as, Tally, Tallies, TalliesMore, TalliesBoth, none, one, two}

-- ---- any fact

-- facts that are so of the same values are counted alike
pub tallies_same : {X : Type 0} (P Q : X → Type 0) (claim : Tally X) → ((x : X) → P x → Q x) → ((x : X) → Q x → P x) → Tallies P claim → Tallies Q claim
tallies_same P Q none on back h = λ x q. h x (back x q)
tallies_same P Q (one value) on back h = record { there = on value h.there; others = λ x q. h.others x (back x q) }
tallies_same P Q two on back h = two_as P Q on h

-- one more value
pub tallies_more : {X : Type 0} (P Q : X → Type 0) (claim after : Tally X) (value : X) → ((x : X) → P x → Q x) → Q value → ((x : X) → Q x → P x ⊎ (x ≡ value))
    → TalliesMore claim value after → Tallies P claim → Tallies Q after
tallies_more P Q none after value on new cases more h = grind arith
tallies_more P Q (one first) after value on new cases more h = grind arith
tallies_more P Q two after value on new cases more h = grind (arith, two_as)

-- and all values of another count
pub tallies_both : {X : Type 0} (P Q R : X → Type 0) (claim others after : Tally X) → ((x : X) → P x → R x) → ((x : X) → Q x → R x) → ((x : X) → R x → P x ⊎ Q x)
    → TalliesBoth claim others after → Tallies P claim → Tallies Q others → Tallies R after
tallies_both P Q R claim none after mine theirs cases both h k = grind (arith, tallies_same)
tallies_both P Q R claim (one value) after mine theirs cases both h k = grind (arith, tallies_more)
tallies_both P Q R claim two after mine theirs cases both h k = grind (arith, two_as)

-- ---- one more copy

module _ (copies : List (List ℕ)) (copy : List ℕ) (end : ℕ) where
  pub last : Contains (copies ++ copy ∷ []) copy
  last = Contains-append_right copies (copy ∷ []) copy (0, omega arith, refl)

  pub piece_on : (piece : LinkValue) → IsPiece copies end piece → IsPiece (copies ++ copy ∷ []) end piece
  piece_on piece h = grind (arith, Contains-append_left)

  pub start_on : (start : ℕ) → IsClaimedStart copies end start → IsClaimedStart (copies ++ copy ∷ []) end start
  start_on start h = record { copy = h.copy; there = Contains-append_left copies (copy ∷ []) h.copy h.there; cut = h.cut; content = h.content }

  pub piece_back : (piece : LinkValue) → IsPiece (copies ++ copy ∷ []) end piece
      → IsPiece copies end piece
      ⊎ (FooterGives copy piece.start end × HasContent piece.start end × (piece ≡ link_of copy piece.start end) × PassesParity (slice_range copy piece.start end))
  piece_back piece h =
      elim (Contains-append_cases copies (copy ∷ []) h.copy h.there) [
        | inl there ↦ inl (record { copy = h.copy; there = there; cut = h.cut; content = h.content; bytes = h.bytes; passes = h.passes })
        | inr there ↦
            let same : h.copy ≡ copy = alone copy h.copy there in
            let lies : piece.bytes ≡ slice_range copy piece.start end = h.bytes ∙ ap (λ c. slice_range c piece.start end) same in
            inr (
              subst (λ c. FooterGives c piece.start end) same h.cut,
              h.content,
              ap (λ b. record { start = piece.start; bytes = b }) lies,
              subst PassesParity lies h.passes,
            )
      ]

  pub start_back : (start : ℕ) → IsClaimedStart (copies ++ copy ∷ []) end start → IsClaimedStart copies end start ⊎ (FooterGives copy start end × HasContent start end)
  start_back start h =
      elim (Contains-append_cases copies (copy ∷ []) h.copy h.there) [
        | inl there ↦ inl (record { copy = h.copy; there = there; cut = h.cut; content = h.content })
        | inr there ↦ inr (subst (λ c. FooterGives c start end) (alone copy h.copy there) h.cut, h.content)
      ]

  -- a copy's footer claims one start
  pub one_cut : (start other : ℕ) → FooterGives copy start end → FooterGives copy other end → other ≡ start
  one_cut start other h k = omega arith

  -- a copy with no cut there, or one without content, adds no piece and no claimed start
  pub pieces-uncut : (claim : Tally LinkValue) → ((start : ℕ) → FooterGives copy start end → HasContent start end → ⊥) → Tallies (IsPiece copies end) claim
      → Tallies (IsPiece (copies ++ copy ∷ []) end) claim
  pieces-uncut claim uncut h =
      tallies_same (IsPiece copies end) (IsPiece (copies ++ copy ∷ []) end) claim piece_on
      (λ piece q. elim (piece_back piece q) [ inl p ↦ p | inr cut ↦ absurd (uncut piece.start cut.0 cut.1) ]) h

  pub starts-uncut : (claim : Tally ℕ) → ((start : ℕ) → FooterGives copy start end → HasContent start end → ⊥) → Tallies (IsClaimedStart copies end) claim
      → Tallies (IsClaimedStart (copies ++ copy ∷ []) end) claim
  starts-uncut claim uncut h =
      tallies_same (IsClaimedStart copies end) (IsClaimedStart (copies ++ copy ∷ []) end) claim start_on
      (λ start q. elim (start_back start q) [ inl p ↦ p | inr cut ↦ absurd (uncut start cut.0 cut.1) ]) h

  -- nor does one that fails its parity add a piece
  pub pieces-failed : (claim : Tally LinkValue) (start : ℕ) → FooterGives copy start end → (PassesParity (slice_range copy start end) → ⊥) → Tallies (IsPiece copies end) claim
      → Tallies (IsPiece (copies ++ copy ∷ []) end) claim
  pieces-failed claim start cut fails h =
      tallies_same (IsPiece copies end) (IsPiece (copies ++ copy ∷ []) end) claim piece_on (λ piece q. elim (piece_back piece q) [
        | inl p ↦ p
        | inr new ↦ absurd (fails (rw (← one_cut start piece.start cut new.0) new.3))
      ]) h

  pub pieces-passed : (claim after : Tally LinkValue) (start : ℕ) → FooterGives copy start end → HasContent start end → PassesParity (slice_range copy start end)
      → TalliesMore claim (link_of copy start end) after → Tallies (IsPiece copies end) claim → Tallies (IsPiece (copies ++ copy ∷ []) end) after
  pieces-passed claim after start cut content passes more h = grind (arith, tallies_more, piece_on, last, piece_back, one_cut)

  -- a slice with which the pieces stay as they are is a piece that was found already, or two others differ
  pub pieces-kept : (claim : Tally LinkValue) (start : ℕ) → FooterGives copy start end → TalliesMore claim (link_of copy start end) claim
      → Tallies (IsPiece copies end) claim → Tallies (IsPiece (copies ++ copy ∷ []) end) claim
  pieces-kept none start cut more h = absurd (cc)
  pieces-kept (one first) start cut more h =
      elim more [
        | inl same ↦
            pieces-passed (one first) (one first) start cut (subst (λ p. HasContent p.start end) same.0 h.there.content)
            (subst (λ p. PassesParity p.bytes) same.0 h.there.passes) (inl same) h
        | inr apart ↦ absurd (cc (apart.1))
      ]
  pieces-kept two start cut more h = two_as (IsPiece copies end) (IsPiece (copies ++ copy ∷ []) end) piece_on h

  pub starts-cut : (claim after : Tally ℕ) (start : ℕ) → FooterGives copy start end → HasContent start end → TalliesMore claim start after
      → Tallies (IsClaimedStart copies end) claim
      → Tallies (IsClaimedStart (copies ++ copy ∷ []) end) after
  starts-cut claim after start cut content more h = grind (arith, tallies_more, start_on, last, start_back, one_cut)
