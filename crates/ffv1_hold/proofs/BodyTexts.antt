-- Entries after their tags are read in one way only, and show one fault at most.
use Rattle.ffv1_hold.proofs.Common.{◌≡◌, ℕ, List, ◌++◌, Option, sym, ap, ◌∙◌, subst, inl, inr, append_assoc, arith, Reel, Entry, HoldFileFault, Version, FileEntry, slice_text, text_after_slice, body_text, AreDigestsIn, HasText, IsEntryInPlace, IsPartOfSlice, IsPartOfBody, BodyShows}
use Rattle.ffv1_hold.proofs.SliceTexts.{same_slice, after_slice, slice_cut, slice_none, slice_one, part_slice_none}
use Rattle.ffv1_hold.proofs.DigestTexts.{same_after, after_none, after_cut, after_one, part_after_none}

module _ (v : Version) where
  -- its slice, and what stands after it, before more bytes
  pub body_parts : (e : FileEntry) (x : List ℕ) → body_text v e ++ x ≡ slice_text e.0 ++ (text_after_slice v e.1 ++ x)
  unfolding body_text
  body_parts e x = append_assoc (slice_text e.0) (text_after_slice v e.1) x

  -- two entries that begin the same bytes are the same
  pub same_body : (e f : FileEntry) (x y : List ℕ) → HasText v e → HasText v f → body_text v e ++ x ≡ body_text v f ++ y → (e ≡ f) × (x ≡ y)
  same_body e f x y e_has f_has same = grind (arith, body_parts, same_slice, same_after, after_slice)

  module _ (r : Reel) (last : Option FileEntry) where
    -- a slice that is right, before other bytes
    right_same : (e f : Entry) (x y : List ℕ) → IsEntryInPlace r last e → IsEntryInPlace r last f → slice_text e ++ x ≡ slice_text f ++ y → x ≡ y
    right_same e f x y e_is f_is same = after_slice e f x y (e_is.2, e_is.0.fits) (f_is.2, f_is.0.fits) same

    -- a whole entry is not cut by the end
    pub body_cut : (e : FileEntry) (x : List ℕ) → HasText v e → IsPartOfBody v r last (body_text v e ++ x) → ⊥
    body_cut e x has (inl part) = slice_cut e.0 (text_after_slice v e.1 ++ x) has.1 (subst IsPartOfSlice (body_parts e x) part)
    body_cut e x has (inr (f, part, split, right, cut)) = grind (arith, after_slice, body_parts, after_cut)

    -- an entry that is right shows no fault
    pub body_none : (e : FileEntry) (x y : List ℕ) → IsEntryInPlace r last e.0 → AreDigestsIn v e.1 → (f : HoldFileFault) (s : List ℕ)
        → body_text v e ++ x ≡ s ++ y → BodyShows v r last f s → ⊥
    body_none e x y right are f s same (inl shown) =
        slice_none r last e.0 (text_after_slice v e.1 ++ x) y right f s (sym (body_parts e x) ∙ same) shown
    body_none e x y right are f s same (inr (d, seen, split, also, shown)) =
        after_none v e.1 x seen y f are (right_same e.0 d _ (seen ++ y) right also
        (sym (body_parts e x) ∙ same ∙ ap (λ q. q ++ y) split ∙ append_assoc (slice_text d) seen y)) shown

    -- two faults of one entry
    pub body_one : (f g : HoldFileFault) (s t y z : List ℕ) → s ++ y ≡ t ++ z → BodyShows v r last f s → BodyShows v r last g t → f ≡ g
    body_one f g s t y z same (inl a) (inl b) = slice_one r last f g s t y z same a b
    body_one f g s t y z same (inl a) (inr (d, seen, split, right, b)) =
        absurd (slice_none r last d (seen ++ z) y right f s (sym (append_assoc (slice_text d) seen z) ∙ sym (ap (λ q. q ++ z) split) ∙ sym same) a)
    body_one f g s t y z same (inr (d, seen, split, right, a)) (inl b) =
        absurd (slice_none r last d (seen ++ y) z right g t (sym (append_assoc (slice_text d) seen y) ∙ sym (ap (λ q. q ++ y) split) ∙ same) b)
    body_one f g s t y z same (inr (d, seen, split, right, a)) (inr (e, other, apart, also, b)) =
        cc (after_one v f g seen other y z (right_same d e (seen ++ y) (other ++ z) right also (sym (append_assoc (slice_text d) seen y) ∙ sym (ap (λ q. q ++ y) split) ∙ same ∙ ap (λ q. q ++ z) apart ∙ append_assoc (slice_text e) other z)) a b)

    -- no beginning of a part of an entry shows a fault
    pub part_body_none : (f : HoldFileFault) (p s y : List ℕ) → p ≡ s ++ y → IsPartOfBody v r last p → BodyShows v r last f s → ⊥
    part_body_none f p s y same (inl part) (inl shown) = part_slice_none r last f p s y same part shown
    part_body_none f p s y same (inl part) (inr (d, seen, split, right, shown)) =
        slice_cut d (seen ++ y) right.0.fits (subst IsPartOfSlice (same ∙ ap (λ q. q ++ y) split ∙ append_assoc (slice_text d) seen y) part)
    part_body_none f p s y same (inr (d, part, split, right, cut)) (inl shown) = slice_none r last d part y right f s (sym split ∙ same) shown
    part_body_none f p s y same (inr (d, part, split, right, cut)) (inr (e, seen, apart, also, shown)) =
        part_after_none v f part seen y (right_same d e part (seen ++ y) right also (sym split ∙ same ∙ ap (λ q. q ++ y) apart
        ∙ append_assoc (slice_text e) seen y)) cut shown
