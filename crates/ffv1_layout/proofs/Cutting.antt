-- A payload that is cut from its end.
use Rattle.std.proofs.Common.{◌≡◌, ℕ, ◌<◌, ◌≤◌, List, [], ◌∷◌, ◌++◌, length, map, reverse, refl, sym, ap, subst, ◌∙◌, append_assoc, length-append, arith}
use Rattle.std.specs.List.{slice_range}
use Rattle.std.proofs.lemmas.List.{append-nil, map-append, reverse-append, length-reverse}
use Rattle.ffv1_slice.specs.Chain.{FooterLeads}
use Rattle.ffv1_layout.specs.Cuts.{AreCutAt}
use Rattle.ffv1_layout.specs.Cuts.AreCutAt.{no_slice, one_slice}
use Rattle.ffv1_layout.specs.Inner.Cutting.{AreCutAfter}

module _ (footer : ℕ) (payload : List ℕ) where
  -- nothing stands after the payload's end
  pub after_end : AreCutAfter footer payload (length payload) []
  after_end = record {
    within = omega arith;
    whole = λ slices cut. subst (AreCutAt footer payload (length payload)) (sym (append-nil slices)) cut;
    only = λ all cut. (all, cut, sym (append-nil all));
  }

  reversed_more : (slices later : List (List ℕ)) (s : List ℕ) → (slices ++ s ∷ []) ++ reverse later ≡ slices ++ reverse (later ++ s ∷ [])
  reversed_more slices later s = rw (reverse-append later (s ∷ [])) (append_assoc slices (s ∷ []) (reverse later))

  one_start : (p p' q : ℕ) → FooterLeads footer payload p q → FooterLeads footer payload p' q → p' ≡ p
  one_start p p' q gives other = omega arith

  module _ (q : ℕ) (later : List (List ℕ)) (cut : AreCutAfter footer payload q later) where
    -- one slice more
    pub after_more : (p : ℕ) → 3 ≤ footer → FooterLeads footer payload p q → AreCutAfter footer payload p (later ++ slice_range payload p q ∷ [])
    after_more p some gives = record {
      within = let w = cut.within in omega arith;
      whole = λ slices is. subst (AreCutAt footer payload (length payload)) (reversed_more slices later (slice_range payload p q))
          (cut.whole (slices ++ slice_range payload p q ∷ []) (one_slice p slices gives refl is));
      only = λ all is. let found = cut.only all is in elim found.1 [
        | no_slice at_start no_slices ↦ absurd (omega arith)
        | one_slice p' others gives' slices_are before ↦
            let same = one_start p p' q gives gives' in (
              others,
              subst (λ n. AreCutAt footer payload n others) same before,
              found.2 ∙ ap (λ slices. slices ++ reverse later) (slices_are ∙ ap (λ n. others ++ slice_range payload n q ∷ []) same)
                  ∙ reversed_more others later (slice_range payload p q),
            )
      ];
    }

    -- where no slice ends the payload is not cut
    pub never_cut : 0 < q → ((p : ℕ) → FooterLeads footer payload p q → ⊥) → (all : List (List ℕ)) → AreCutAt footer payload (length payload) all → ⊥
    never_cut some none all is = elim (cut.only all is).1 [
      | no_slice at_start no_slices ↦ omega arith
      | one_slice p others gives slices_are before ↦ none p gives
    ]

    -- before a place that is not the start stands a slice at least
    pub one_before : 0 < q → (all : List (List ℕ)) → AreCutAt footer payload (length payload) all → length later < length all
    one_before some all is = let found = cut.only all is in elim found.1 [
      | no_slice at_start no_slices ↦ absurd (omega arith)
      | one_slice p others gives slices_are before ↦
          rw (found.2, length-append, length-reverse, slices_are, length-append) (omega arith)
    ]

  module _ (later : List (List ℕ)) (cut : AreCutAfter footer payload 0 later) where
    -- all of it is cut
    pub all_cut : AreCutAt footer payload (length payload) (reverse later)
    all_cut = cut.whole [] (no_slice refl refl)

    -- .. in one way
    pub cut_once : 3 ≤ footer → (all : List (List ℕ)) → AreCutAt footer payload (length payload) all → all ≡ reverse later
    cut_once some all is = let found = cut.only all is in elim found.1 [
      | no_slice at_start no_slices ↦ found.2 ∙ ap (λ slices. slices ++ reverse later) no_slices
      | one_slice p others gives slices_are before ↦ absurd (omega arith)
    ]

pub map-reverse : {A B : Type 0} (f : A → B) (xs : List A) → map f (reverse xs) ≡ reverse (map f xs)
map-reverse f [] = refl
map-reverse f (x ∷ xs) =
    ap (map f) (reverse-append (x ∷ []) xs) ∙ map-append f (reverse xs) (x ∷ []) ∙ ap (λ ys. ys ++ f x ∷ []) (map-reverse f xs)
    ∙ sym (reverse-append (f x ∷ []) (map f xs))
