-- Slices are as long as their footers tell, at most, and have room for them.
use Rattle.std.proofs.Common.{◌≡◌, ◌==◌, ℕ, ◌-◌, ◌^◌, ◌<◌, ◌≤◌, Bool, true, false, if◌then◌else◌, List, [], ◌∷◌, ◌++◌, length, get_or, drop, refl, subst, inl, inr, arith}
use Rattle.std.specs.List.{slice_range}
use Rattle.std.proofs.lemmas.Bool.{cases_lt, cases_order}
use Rattle.std.proofs.lemmas.List.{get_or_append_left, get_or-append_right, get_or_past, length-append, length-map, length-take}
use Rattle.ffv1_bits.specs.Limits.{slice_limit}
use Rattle.ffv1_bits.specs.Parity.{AreBytes}
use Rattle.ffv1_bits.proofs.Bytes.{AreBytes-range}
use Rattle.ffv1_range.specs.Setup.{RecordingValue}
use Rattle.ffv1_slice.specs.Chain.{FooterLeads, size_of_footer}
use Rattle.ffv1_slice.proofs.NearLaws.{length-range}
use Rattle.ffv1_layout.specs.Cuts.{footer_length, AreCutAt, FitFooters, AreSlicesOf}
use Rattle.ffv1_layout.specs.Cuts.AreCutAt.{no_slice, one_slice}
use Rattle.ffv1_layout.specs.Layout.{listed_slice, contents_of}
use Rattle.ffv1_layout.specs.Inner.Placing.{HaveFooters, ArePlaced}
use Rattle.ffv1_layout.specs.declared.layout.PlacedSlice.{PlacedSlice}

module _ (payload : List ℕ) (bytes : AreBytes payload) where
  size_small : (footer q : ℕ) → size_of_footer footer payload q < 2 ^ 24
  size_small footer q =
      let are = AreBytes-range payload (q - footer) q bytes in
      omega (arith, are 0, are 1, are 2)

  range_short : (footer p q : ℕ) → footer ≤ 8 → FooterLeads footer payload p q → length (slice_range payload p q) ≤ slice_limit
  range_short footer p q few gives =
      let small = size_small footer q in
      let le = length-take (q - p) (drop p payload) in
      omega arith

  pub cut_short : (footer q : ℕ) (slices : List (List ℕ)) → footer ≤ 8 → AreCutAt footer payload q slices → FitFooters slices
  cut_short footer q slices few (no_slice at_start none) k = rw none (omega arith)
  cut_short footer q slices few (one_slice p others gives are before) k = elim (cases_order k (length others)) [
    | inl same ↦
        rw (are, get_or-append_right others (slice_range payload p q ∷ []) (length others) k [] refl (omega arith))
        (subst (λ i. length (get_or (slice_range payload p q ∷ []) i []) ≤ slice_limit) {x = 0} {y = k - length others} (omega arith) (range_short footer p q few gives))
    | inr (inl less) ↦ rw (are, get_or_append_left others (slice_range payload p q ∷ []) [] k less) (cut_short footer p others few before k)
    | inr (inr more) ↦ rw (are, get_or_past (others ++ slice_range payload p q ∷ []) k [] (omega (arith, length-append others (slice_range payload p q ∷ [])))) (omega arith)
  ]

footer_few : (ec : ℕ) → footer_length ec ≤ 8
footer_few ec = by_test (ec == 0)
  where
    by_test : (b : Bool) → (if b then 3 else 8) ≤ 8
    by_test true = omega arith
    by_test false = omega arith

pub slices_short : (r : RecordingValue) (payload : List ℕ) (slices : List (List ℕ)) → AreBytes payload → AreSlicesOf r payload slices → FitFooters slices
slices_short r payload slices bytes are = cut_short payload bytes (footer_length r.setup.ec) (length payload) slices (footer_few r.setup.ec) are.cut

-- .. and so are their contents
pub contents_short : (r : RecordingValue) (slices : List (List ℕ)) (placed : List PlacedSlice) → FitFooters slices → ArePlaced r slices (length slices) placed
    → FitFooters (contents_of placed)
contents_short r slices placed short are k = elim (cases_lt k (length slices)) [
  | inl less ↦ rw (are.contents k less) (let le = length-take (length (listed_slice slices k) - footer_length r.setup.ec) (listed_slice slices k) in let few = short k in omega arith)
  | inr more ↦ rw (get_or_past (contents_of placed) k [] (omega (arith, length-map placed (λ (slice : PlacedSlice). slice.content.now), are.long))) (omega arith)
]

-- Each slice has room for its footer.
cut_long : (payload : List ℕ) (footer q : ℕ) (slices : List (List ℕ)) → q ≤ length payload → AreCutAt footer payload q slices → HaveFooters footer slices
cut_long payload footer q slices within (no_slice at_start none) k lt = absurd (let none_of = subst (λ xs. k < length xs) none lt in omega arith)
cut_long payload footer q slices within (one_slice p others gives are before) k lt = elim (cases_lt k (length others)) [
  | inl less ↦ rw (are, get_or_append_left others (slice_range payload p q ∷ []) [] k less) (cut_long payload footer p others (omega arith) before k less)
  | inr more ↦
      let long = length-range payload p q (omega arith) within in
      let last : k ≡ length others = let below = subst (λ xs. k < length xs) are lt in omega (arith, length-append others (slice_range payload p q ∷ [])) in
      rw (are, last, get_or-append_right others (slice_range payload p q ∷ []) (length others) (length others) [] refl (omega arith))
      (subst (λ i. footer ≤ length (get_or (slice_range payload p q ∷ []) i [])) {x = 0} {y = length others - length others} (omega arith) (omega arith))
]

pub slices_long : (r : RecordingValue) (payload : List ℕ) (slices : List (List ℕ)) → AreSlicesOf r payload slices → HaveFooters (footer_length r.setup.ec) slices
slices_long r payload slices are = cut_long payload (footer_length r.setup.ec) (length payload) slices (omega arith) are.cut
