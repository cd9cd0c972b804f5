-- The links of a payload whose chain is whole are the slices that it is cut into.
use Rattle.std.proofs.Common.{◌≡◌, ℕ, zero, suc, ◌≤◌, List, [], ◌∷◌, ◌++◌, length, map, reverse, refl, sym, ap, subst, ◌∙◌, inl, inr, append-nil, append_assoc, arith}
use Rattle.std.proofs.lemmas.List.{map-append, reverse-append}
use Rattle.ffv1_slice.specs.Chain.{FooterGives, IsEnd, LinkValue, link_of}
use Rattle.ffv1_slice.specs.Chain.IsEnd.{last, before}
use Rattle.ffv1_slice.specs.Walk.{walked, links_of}
use Rattle.ffv1_slice.proofs.Links.{walked-more, walked-none, cut_or_none, least_end}
use Rattle.ffv1_layout.specs.Cuts.{AreCutAt}
use Rattle.ffv1_layout.specs.Cuts.AreCutAt.{no_slice, one_slice}

abbrev bytes_of : List LinkValue → List (List ℕ)
bytes_of links = map (λ link. link.bytes) (reverse links)

module _ (payload : List ℕ) where
  -- A walk back from an end stops at one before which no slice ends, and the links that it gives are the slices between.
  record Stops (q : ℕ) (links : List LinkValue) : Type 0 where
    stop : ℕ
    is_end : IsEnd payload stop
    is_least : (p : ℕ) → FooterGives payload p stop → ⊥
    cut : (slices : List (List ℕ)) → AreCutAt 8 payload stop slices → AreCutAt 8 payload q (slices ++ bytes_of links)

  stops_here : (q : ℕ) → IsEnd payload q → ((p : ℕ) → FooterGives payload p q → ⊥) → Stops q []
  stops_here q is none = record { stop = q; is_end = is; is_least = none; cut = λ slices cut. subst (AreCutAt 8 payload q) (sym (append-nil slices)) cut }

  one_more : (slices : List (List ℕ)) (links : List LinkValue) (link : LinkValue)
      → (slices ++ bytes_of links) ++ link.bytes ∷ [] ≡ slices ++ bytes_of (link ∷ links)
  one_more slices links link =
      append_assoc slices (bytes_of links) (link.bytes ∷ [])
      ∙ ap (λ l. slices ++ l)
      (sym (map-append (λ (l : LinkValue). l.bytes) (reverse links) (link ∷ [])) ∙ ap (map (λ (l : LinkValue). l.bytes)) (sym (reverse-append (link ∷ []) links)))

  stops_later : (p q : ℕ) (links : List LinkValue) → FooterGives payload p q → Stops p links → Stops q (link_of payload p q ∷ links)
  stops_later p q links gives h =
      record {
        stop = h.stop;
        is_end = h.is_end;
        is_least = h.is_least;
        cut = λ slices cut.
            subst (AreCutAt 8 payload q) (one_more slices links (link_of payload p q))
            (one_slice p (slices ++ bytes_of links) gives refl (h.cut slices cut));
      }

  walk_stops : (n q : ℕ) → q ≤ n → IsEnd payload q → Stops q (walked n payload q)
  walk_stops zero q few is =
      subst (Stops q) (sym (walked-none payload zero q (λ p gives. omega arith))) (stops_here q is (λ p gives. omega arith))
  walk_stops (suc n) q few is =
      elim (cut_or_none payload q) [
        | inl some ↦
            let gives : FooterGives payload some.0 q = some.1 in
            subst (Stops q) (sym (walked-more payload n some.0 q gives))
            (stops_later some.0 q (walked n payload some.0) gives (walk_stops n some.0 (omega arith) (before is gives)))
        | inr none ↦ subst (Stops q) (sym (walked-none payload (suc n) q none)) (stops_here q is none)
      ]

  pub links_are_cut : IsEnd payload 0 → AreCutAt 8 payload (length payload) (bytes_of (links_of payload))
  links_are_cut whole =
      let h = walk_stops (length payload) (length payload) (omega arith) last in
      let start : h.stop ≡ 0 = omega (arith, least_end payload h.stop h.is_end h.is_least 0 whole) in
      h.cut [] (no_slice start refl)
