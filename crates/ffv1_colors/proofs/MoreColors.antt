-- One place more has its colour.
use Rattle.std.proofs.Common.{◌≡◌, ℕ, ◌+◌, ◌<◌, List, [], ◌∷◌, ◌++◌, length, pos, sym, ap, ◌∙◌, subst, arith, inl, inr}
use Rattle.std.specs.Prelude.{slice_index}
use Rattle.std.proofs.lemmas.Bool.{cases_eq}
use Rattle.std.proofs.lemmas.List.{get_or_append_left, get_or-append-add, length_push}
use Rattle.ffv1_colors.specs.Colors.{CodingValue, coded_of, colors_of, IsColor}
use Rattle.ffv1_colors.specs.Planes.{ThreePlanes, coded_at}
use Rattle.ffv1_colors.specs.Inner.Planes.{AreColorsTo}
use Rattle.ffv1_colors.proofs.Back.{colors_are_back}

abbrev pub planes_with : List ℕ → List ℕ → List ℕ → ThreePlanes
planes_with first second third = record { first = first; second = second; third = third }

element_before : (xs : List ℕ) (x s n : ℕ) → length xs ≡ n → s < n → slice_index (xs ++ x ∷ []) s ≡ slice_index xs s
element_before xs x s n long less = get_or_append_left xs (x ∷ []) 0 s (omega (arith, long, less))

element_last : (xs : List ℕ) (x n : ℕ) → length xs ≡ n → slice_index (xs ++ x ∷ []) n ≡ x
element_last xs x n long =
    (let at : n ≡ length xs + 0 = omega (arith, long) in ap (slice_index (xs ++ x ∷ [])) at) ∙ get_or-append-add xs (x ∷ []) 0 0

module _ (c : CodingValue) (coded : ThreePlanes) (first second third : List ℕ) (n : ℕ) (h : AreColorsTo c coded (planes_with first second third) n) where
  pub one_more_color : (a b d : ℕ) → coded_of c (record { first = pos a; second = pos b; third = pos d }) ≡ coded_at coded n
      → IsColor c (record { first = pos a; second = pos b; third = pos d })
      → AreColorsTo c coded (planes_with (first ++ a ∷ []) (second ++ b ∷ []) (third ++ d ∷ [])) (n + 1)
  one_more_color a b d is color =
      let planes = planes_with (first ++ a ∷ []) (second ++ b ∷ []) (third ++ d ∷ []) in
      let before : (s : ℕ) → s < n → coded_at (planes_with first second third) s ≡ coded_at planes s = λ s less.
      ap (λ x. record { first = pos x; second = pos (slice_index second s); third = pos (slice_index third s) })
      (sym (element_before first a s n h.first_long less))
      ∙ ap (λ x. record { first = pos (slice_index (first ++ a ∷ []) s); second = pos x; third = pos (slice_index third s) })
      (sym (element_before second b s n h.second_long less))
      ∙ ap (λ x. record { first = pos (slice_index (first ++ a ∷ []) s); second = pos (slice_index (second ++ b ∷ []) s); third = pos x })
      (sym (element_before third d s n h.third_long less)) in
      let last : record { first = pos a; second = pos b; third = pos d } ≡ coded_at planes n =
      ap (λ x. record { first = pos x; second = pos b; third = pos d }) (sym (element_last first a n h.first_long))
      ∙ ap (λ x. record { first = pos (slice_index (first ++ a ∷ []) n); second = pos x; third = pos d }) (sym (element_last second b n h.second_long))
      ∙ ap (λ x. record { first = pos (slice_index (first ++ a ∷ []) n); second = pos (slice_index (second ++ b ∷ []) n); third = pos x })
      (sym (element_last third d n h.third_long)) in
      record {
        first_long = length_push first a ∙ ap (λ m. m + 1) h.first_long;
        second_long = length_push second b ∙ ap (λ m. m + 1) h.second_long;
        third_long = length_push third d ∙ ap (λ m. m + 1) h.third_long;
        coded_so = λ s less. elim (cases_eq s n) [
          | inl same ↦
              subst (λ m. coded_of c (coded_at planes m) ≡ coded_at coded m) (sym same) (subst (λ p. coded_of c p ≡ coded_at coded n) last is)
          | inr apart ↦
              let earlier : s < n = omega (arith, less, apart) in
              subst (λ p. coded_of c p ≡ coded_at coded s) (before s earlier) (h.coded_so s earlier)
        ];
        colors = λ s less. elim (cases_eq s n) [
          | inl same ↦ subst (λ m. IsColor c (coded_at planes m)) (sym same) (subst (IsColor c) last color)
          | inr apart ↦
              let earlier : s < n = omega (arith, less, apart) in
              subst (IsColor c) (before s earlier) (h.colors s earlier)
        ];
      }

  -- each of the first places has a colour
  pub colors_before : (s : ℕ) → s < n → IsColor c (colors_of c (coded_at coded s))
  colors_before s less =
      let p = coded_at (planes_with first second third) s in
      subst (IsColor c) (sym (ap (colors_of c) (sym (h.coded_so s less)) ∙ colors_are_back.colors c p)) (h.colors s less)
