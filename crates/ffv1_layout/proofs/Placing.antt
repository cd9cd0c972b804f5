-- Slices that are placed one after the other.
use Rattle.std.proofs.Common.{◌≡◌, ◌==◌, ℕ, ◌+◌, ◌-◌, ◌<◌, List, [], ◌∷◌, ◌++◌, length, map, get_or, None, refl, sym, ap, subst, ◌∙◌, length-append, below_more, arith}
use Rattle.std.proofs.lemmas.List.{map-append, length-map, get_or_append_left, get_or-append_right}
use Rattle.ffv1_range.specs.Setup.{RecordingValue}
use Rattle.ffv1_layout.specs.Cuts.{slice_content, slice_status}
use Rattle.ffv1_layout.specs.Layout.{HasSliceHeader, no_header, header_at, headers_of, contents_of, statuses_of, status_at, listed_slice}
use Rattle.ffv1_layout.specs.Inner.Placing.{IsPlacedSlice, ArePlaced}
use Rattle.ffv1_layout.specs.declared.layout.PlacedSlice.{PlacedSlice}

-- of a list that is one longer, an item before the last ..
mapped_before : {A B : Type 0} (f : A → B) (xs : List A) (x : A) (d : B) (k : ℕ) → k < length xs → get_or (map f (xs ++ x ∷ [])) k d ≡ get_or (map f xs) k d
mapped_before f xs x d k lt =
    ap (λ ys. get_or ys k d) (map-append f xs (x ∷ [])) ∙ get_or_append_left (map f xs) (f x ∷ []) d k (omega (arith, length-map xs f))

-- .. and the last
mapped_last : {A B : Type 0} (f : A → B) (xs : List A) (x : A) (d : B) (k : ℕ) → length xs ≡ k → get_or (map f (xs ++ x ∷ [])) k d ≡ f x
mapped_last f xs x d k long =
    ap (λ ys. get_or ys k d) (map-append f xs (x ∷ []))
    ∙ get_or-append_right (map f xs) (f x ∷ []) k k d (length-map xs f ∙ long) (omega arith)
    ∙ ap (λ i. get_or (f x ∷ []) i d) {x = k - k} {y = 0} (omega arith)

module _ (r : RecordingValue) (slices : List (List ℕ)) where
  pub none_placed : ArePlaced r slices 0 []
  none_placed = record { long = refl; headers = λ k lt. absurd (omega arith); contents = λ k lt. absurd (omega arith); statuses = λ k lt. absurd (omega arith) }

  pub one_placed : (n : ℕ) (placed : List PlacedSlice) (p : PlacedSlice) → ArePlaced r slices n placed → IsPlacedSlice r (listed_slice slices n) (n == 0) p
      → ArePlaced r slices (n + 1) (placed ++ p ∷ [])
  one_placed n placed p before is = record {
    long = omega (arith, length-append placed (p ∷ []), before.long);
    headers = below_more (λ k. HasSliceHeader r (listed_slice slices k) (k == 0) (header_at (headers_of (placed ++ p ∷ [])) k)) n
        (λ k lt. subst (HasSliceHeader r (listed_slice slices k) (k == 0))
        (sym (mapped_before (λ (s : PlacedSlice). s.header) placed p no_header k (omega (arith, before.long)))) (before.headers k lt))
        (subst (HasSliceHeader r (listed_slice slices n) (n == 0)) (sym (mapped_last (λ (s : PlacedSlice). s.header) placed p no_header n before.long)) is.header);
    contents = below_more (λ k. listed_slice (contents_of (placed ++ p ∷ [])) k ≡ slice_content r (listed_slice slices k)) n
        (λ k lt. mapped_before (λ (s : PlacedSlice). s.content.now) placed p [] k (omega (arith, before.long)) ∙ before.contents k lt)
        (mapped_last (λ (s : PlacedSlice). s.content.now) placed p [] n before.long ∙ is.content);
    statuses = below_more (λ k. status_at (statuses_of (placed ++ p ∷ [])) k ≡ slice_status r (listed_slice slices k)) n
        (λ k lt. mapped_before (λ (s : PlacedSlice). s.status) placed p None k (omega (arith, before.long)) ∙ before.statuses k lt)
        (mapped_last (λ (s : PlacedSlice). s.status) placed p None n before.long ∙ is.status);
  }
