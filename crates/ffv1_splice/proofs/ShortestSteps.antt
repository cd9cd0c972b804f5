-- The shortest piece from a place: of one copy end by end, of copies one by one, and of ends that lie further and further from there.
use Rattle.ffv1_splice.proofs.Common.{◌≡◌, ℕ, ◌+◌, ◌-◌, ◌<◌, ◌≤◌, true, false, eqb, Bool, List, [], ◌∷◌, ◌++◌, Bor, Option, Some, None, length, take, drop, refl, sym, ap, ◌∙◌, subst, arith, inl, inr, ◌⊎◌, ◌↔◌, Contains, MatchOption, slice_range, option_eq, cases_lt, eqb-true, eqb-false, true_from_ne_false, take-add, drop-drop, Contains-append_left, Contains-append_right, Contains-append_cases, bits_of, slice_limit, AreBytes, PassesParity, divided, remainder_of, polynomial_of, AreBytes-range, FooterGives, IsOfNone, length-range, LacksClaims, HasContent, IsPiece, PieceFrom, IsPieceFrom, IsShortest, alone}

-- ---- one copy

-- A piece of the copy from a place ends there.
pub record EndsPiece (copy : List ℕ) (start end : ℕ) : Type 0 where
  pub cut : FooterGives copy start end
  pub content : HasContent start end
  pub passes : PassesParity (slice_range copy start end)

in_itself : (copy : List ℕ) → Contains (copy ∷ []) copy
in_itself copy = (0, omega arith, refl)

pub piece_of_end : (copy : List ℕ) (bound start end : ℕ) → EndsPiece copy start end → end ≤ bound
    → IsPieceFrom (copy ∷ []) bound start (record { end = end; bytes = slice_range copy start end })
piece_of_end copy bound start end h within = grind (arith, in_itself)

pub end_of_piece : (copy : List ℕ) (start end : ℕ) (bytes : List ℕ) → IsPiece (copy ∷ []) end (record { start = start; bytes = bytes })
    → EndsPiece copy start end × (bytes ≡ slice_range copy start end)
end_of_piece copy start end bytes h = grind (arith, alone)

-- where a footer's start was compared with a place
pub claims : (P : ℕ → Type 0) (Q : Type 0) (found : Option ℕ) (start : ℕ) → MatchOption found Q P → option_eq eqb found (Some start) ≡ true → P start
claims P Q None start h same = absurd (cc)
claims P Q (Some other) start h same = subst P (eqb-true other start same) h

pub claims_not : (P : ℕ → Type 0) (Q : Type 0) (found : Option ℕ) (start : ℕ) → (Q → P start → ⊥) → ((other : ℕ) → P other → P start → other ≡ start)
    → MatchOption found Q P → option_eq eqb found (Some start) ≡ false → P start → ⊥
claims_not P Q None start none one h apart claim = none h claim
claims_not P Q (Some other) start none one h apart claim = eqb-false other start apart (one other h claim)

-- so it says whether the footer gives the place
pub claims_if : (copy : List ℕ) (start end : ℕ) (found : Option ℕ) (returned : Bool)
    → MatchOption found ((p : ℕ) → FooterGives copy p end → ⊥) (λ p. FooterGives copy p end) → returned ≡ option_eq eqb found (Some start)
    → (returned ≡ true) ↔ FooterGives copy start end
claims_if copy start end found returned h is = (
  λ yes. claims (λ p. FooterGives copy p end) _ found start h (sym is ∙ yes),
  λ cut. true_from_ne_false returned (λ no.
      claims_not (λ p. FooterGives copy p end) _ found start (λ none here. none start here) (λ other here there. omega arith) h (sym is ∙ no) cut),
)

-- a size field has three bytes
pub cut_is_short : (copy : List ℕ) (start end : ℕ) → AreBytes copy → FooterGives copy start end → end ≤ start + slice_limit
cut_is_short copy start end small cut = grind (arith, AreBytes-range)

-- ---- end by end

-- what lies between two places, and then up to a third
pub range_on : (xs : List ℕ) (a b c : ℕ) → a ≤ b → b ≤ c → slice_range xs a b ++ slice_range xs b c ≡ slice_range xs a c
range_on xs a b c low high =
    let on : a + (b - a) ≡ b = omega arith in
    let whole : b - a + (c - b) ≡ c - a = omega arith in
    cc (drop-drop (b - a) a xs, take-add (b - a) (c - b) (drop a xs))

nothing_left : 0 ≡ remainder_of (bits_of [])
unfolding bits_of remainder_of divided polynomial_of
nothing_left = refl

-- No piece of the copy ends before a place, and of its bytes up to the last claimed end this is left.
pub record AreJudged (copy : List ℕ) (start judged end left : ℕ) : Type 0 where
  pub from : start ≤ judged
  pub to : judged ≤ end
  pub left' : left ≡ remainder_of (bits_of (slice_range copy start judged))
  pub none : (earlier : ℕ) → earlier < end → EndsPiece copy start earlier → ⊥

-- no piece ends at the end `from` or before it
pub judged_first : (copy : List ℕ) (start from : ℕ) → start ≤ from → IsOfNone (IsPieceFrom (copy ∷ []) from start)
    → AreJudged copy start start (from + 1) 0
judged_first copy start from low none =
    let empty : 0 ≡ start - start = omega arith in
    record {
      from = omega arith;
      to = omega arith;
      left' = nothing_left ∙ ap (λ n. remainder_of (bits_of (take n (drop start copy)))) empty;
      none = λ earlier before h. none _ (piece_of_end copy from start earlier h (omega arith));
    }

module _ (copy : List ℕ) (start judged end left : ℕ) (so_far : AreJudged copy start judged end left) where
  -- what is left of the bytes up to an end, by what was left of those before
  pub left_on : (next : ℕ)
      → ((front : List ℕ) → left ≡ remainder_of (bits_of front) → next ≡ remainder_of (bits_of (front ++ slice_range copy judged end)))
      → next ≡ remainder_of (bits_of (slice_range copy start end))
  left_on next after = grind (arith, range_on)

  none_on : (EndsPiece copy start end → ⊥) → (earlier : ℕ) → earlier < end + 1 → EndsPiece copy start earlier → ⊥
  none_on none earlier before h = grind (arith, cases_lt)

  -- ends that no footer claims for the start
  pub judged_on : (next : ℕ) → end ≤ next → LacksClaims copy start end next → AreJudged copy start judged next left
  judged_on next order none = grind (arith, cases_lt)

  -- a claimed end where something is left
  pub judged_failed : (next : ℕ) → next ≡ remainder_of (bits_of (slice_range copy start end)) → (next ≡ 0 → ⊥) → AreJudged copy start end (end + 1) next
  judged_failed next is some = grind (arith, none_on)

  -- a claimed end where nothing is left
  pub judged_passed : (bound : ℕ) → FooterGives copy start end → HasContent start end → 0 ≡ remainder_of (bits_of (slice_range copy start end)) → end ≤ bound
      → end ≤ length copy → IsShortest (copy ∷ []) bound start (record { end = end; bytes = slice_range copy start end })
  judged_passed bound cut content is within room = grind (arith, length-range, piece_of_end, cases_lt, end_of_piece)

  -- where no end is left within the bound that a footer claims, no piece ends there
  pub judged_all : (bound : ℕ) → AreBytes copy → ((later : ℕ) → end ≤ later → later ≤ bound → later ≤ start + slice_limit → FooterGives copy start later → ⊥)
      → IsOfNone (IsPieceFrom (copy ∷ []) bound start)
  judged_all bound small past piece p =
      let ends : EndsPiece copy start piece.end = (end_of_piece copy start piece.end piece.bytes p.there).0 in
      elim (cases_lt piece.end end) [
        | inl earlier ↦ so_far.none piece.end earlier ends
        | inr later ↦ past piece.end later p.within (cut_is_short copy start piece.end small ends.cut) ends.cut
      ]

-- ---- copies one by one

-- a piece of one of the copies
pub piece_in : (copies : List (List ℕ)) (copy : List ℕ) (start end : ℕ) (bytes : List ℕ) → Contains copies copy
    → IsPiece (copy ∷ []) end (record { start = start; bytes = bytes }) → IsPiece copies end (record { start = start; bytes = bytes })
piece_in copies copy start end bytes there h = grind (arith, alone)

-- where no copy has a piece, one of them has none
pub none_of_one : (copies : List (List ℕ)) (copy : List ℕ) (bound start : ℕ) → Contains copies copy → IsOfNone (IsPieceFrom copies bound start)
    → IsOfNone (IsPieceFrom (copy ∷ []) bound start)
none_of_one copies copy bound start there none piece p = grind (arith, piece_in)

-- a piece of one more copy is its own, or one of those before
pub piece_cases : (copies : List (List ℕ)) (copy : List ℕ) (start end : ℕ) (bytes : List ℕ)
    → IsPiece (copies ++ copy ∷ []) end (record { start = start; bytes = bytes })
    → IsPiece copies end (record { start = start; bytes = bytes }) ⊎ IsPiece (copy ∷ []) end (record { start = start; bytes = bytes })
piece_cases copies copy start end bytes h =
    elim (Contains-append_cases copies (copy ∷ []) h.copy h.there) [
      | inl there ↦ inl (record { copy = h.copy; there = there; cut = h.cut; content = h.content; bytes = h.bytes; passes = h.passes })
      | inr there ↦ inr (record { copy = h.copy; there = there; cut = h.cut; content = h.content; bytes = h.bytes; passes = h.passes })
    ]

-- No piece of the copies ends as early as `within`, where the search began at the end `from`. What was found is one that ends right
-- after it.
pub record IsFirstOf (copies : List (List ℕ)) (bound start from within : ℕ) (first : Option (Bor (List ℕ))) : Type 0 where
  pub after : from ≤ within
  pub fits : within ≤ bound
  pub none : IsOfNone (IsPieceFrom copies within start)
  pub found : MatchOption first (within ≡ bound)
      (λ bytes. IsPieceFrom copies bound start (record { end = start + length bytes.now; bytes = bytes.now }) × (within + 1 ≡ start + length bytes.now))

module _ (copies : List (List ℕ)) (bound start from : ℕ) where
  pub first_done : (within : ℕ) (first : Option (Bor (List ℕ))) → IsFirstOf copies bound start from within first
      → MatchOption first (IsOfNone (IsPieceFrom copies bound start))
      (λ bytes. IsShortest copies bound start (record { end = start + length bytes.now; bytes = bytes.now }))
  first_done within None h = subst (λ b. IsOfNone (IsPieceFrom copies b start)) h.found h.none
  first_done within (Some bytes) h =
      record {
        there = h.found.0;
        least = λ other p. elim (cases_lt other.end (start + length bytes.now)) [
          | inl earlier ↦ absurd (h.none other (record { there = p.there; within = omega (arith, h.found.1) }))
          | inr later ↦ later
        ];
      }

  module _ (copy : List ℕ) where
    on : (piece : PieceFrom) → IsPieceFrom copies bound start piece → IsPieceFrom (copies ++ copy ∷ []) bound start piece
    on piece h = grind (arith, Contains-append_left)

    found_on : (within : ℕ) (first : Option (Bor (List ℕ)))
        → MatchOption first (within ≡ bound)
        (λ bytes. IsPieceFrom copies bound start (record { end = start + length bytes.now; bytes = bytes.now }) × (within + 1 ≡ start + length bytes.now))
        → MatchOption first (within ≡ bound)
        (λ bytes. IsPieceFrom (copies ++ copy ∷ []) bound start (record { end = start + length bytes.now; bytes = bytes.now })
        × (within + 1 ≡ start + length bytes.now))
    found_on within None h = h
    found_on within (Some bytes) h = (on (record { end = start + length bytes.now; bytes = bytes.now }) h.0, h.1)

    -- a copy with no piece that ends as early
    pub first_kept : (within : ℕ) (first : Option (Bor (List ℕ))) → IsOfNone (IsPieceFrom (copy ∷ []) within start)
        → IsFirstOf copies bound start from within first → IsFirstOf (copies ++ copy ∷ []) bound start from within first
    first_kept within first none h =
        record {
          after = h.after;
          fits = h.fits;
          none = λ piece p. elim (piece_cases copies copy start piece.end piece.bytes p.there) [
            | inl q ↦ h.none piece (record { there = q; within = p.within })
            | inr q ↦ none piece (record { there = q; within = p.within })
          ];
          found = found_on within first h.found;
        }

    -- a copy with a piece that ends as early
    pub first_more : (within end : ℕ) (first : Option (Bor (List ℕ))) (bytes : Bor (List ℕ)) → within ≤ length copy
        → IsOfNone (IsPieceFrom (copy ∷ []) from start) → bytes.now ≡ slice_range copy start end
        → IsShortest (copy ∷ []) within start (record { end = end; bytes = slice_range copy start end })
        → IsFirstOf copies bound start from within first → IsFirstOf (copies ++ copy ∷ []) bound start from (end - 1) (Some bytes)
    first_more within end first bytes room none is shortest h =
        let content : HasContent start end = shortest.there.there.content in
        let early : end ≤ within = shortest.there.within in
        let size : start + length bytes.now ≡ end = omega (arith, ap length is, length-range copy start end (omega arith) (omega arith)) in
        record {
          after = elim (cases_lt from end) [
            | inl later ↦ omega arith
            | inr earlier ↦ absurd (none _ (record { there = shortest.there.there; within = earlier }))
          ];
          fits = omega (arith, h.fits);
          none = λ piece p. elim (piece_cases copies copy start piece.end piece.bytes p.there) [
            | inl q ↦ h.none piece (record { there = q; within = omega (arith, p.within) })
            | inr q ↦
                let least : end ≤ piece.end = shortest.least piece (record { there = q; within = omega (arith, p.within) }) in
                absurd (omega (arith, p.within))
          ];
          found = grind (arith, piece_in, Contains-append_right, in_itself);
        }
