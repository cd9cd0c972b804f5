-- The walk back from a payload's end gives exactly the links.
use Rattle.std.proofs.Common.{◌≡◌, ℕ, suc, zero, ◌+◌, ◌-◌, ◌*◌, ◌<◌, ◌≤◌, leb, List, [], ◌∷◌, length, refl, sym, ap, ◌∙◌, subst, arith, inl, inr}
use Rattle.std.specs.Prelude.{◌⊎◌}
use Rattle.std.specs.List.{All, AllByRecursion, AllPairs, Contains}
use Rattle.std.proofs.lemmas.List.Elements.{All-cons, All-nil, All-weaker}
use Rattle.std.proofs.lemmas.List.Kept.{AllPairs-cons}
use Rattle.std.proofs.lemmas.Bool.{cond-true, cond_both, le-leb, leb-true, cases_lt}
use Rattle.ffv1_slice.specs.Chain.{size_before, FooterGives, IsEnd, IsLinkOf, LinkValue, link_of, AreLinksOf}
use Rattle.ffv1_slice.specs.Chain.IsEnd.{last, before}
use Rattle.ffv1_slice.specs.Walk.{walked, Walk, walk_at}

-- ---- the ends back from any place

data EndsFrom (c : List ℕ) (top : ℕ) : ℕ → Type 0 where
  here : EndsFrom c top top
  more : {p q : ℕ} → EndsFrom c top q → FooterGives c p q → EndsFrom c top p

front : (c : List ℕ) (top e : ℕ) → EndsFrom c top e → (e ≡ top) ⊎ ((t : ℕ) × FooterGives c t top × EndsFrom c t e)
front c top e here = inl refl
front c top e (more {q = q} r cut) =
    elim (front c top q r) [
      | inl same ↦ inr (e, subst (λ x. FooterGives c e x) same cut, here)
      | inr w ↦ inr (w.0, w.1, more w.2 cut)
    ]

from_end : (c : List ℕ) (e : ℕ) → IsEnd c e → EndsFrom c (length c) e
from_end c e last = here
from_end c e (before {q = q} r cut) = more (from_end c q r) cut

to_end : (c : List ℕ) (top e : ℕ) → IsEnd c top → EndsFrom c top e → IsEnd c e
to_end c top e h here = h
to_end c top e h (more {q = q} r cut) = before (to_end c top q h r) cut

-- ---- the walk, step by step

pub walked-more : (c : List ℕ) (n t q : ℕ) → FooterGives c t q → walked (suc n) c q ≡ link_of c t q ∷ walked n c t
unfolding walked
walked-more c n t q cut =
    let start : q - (size_before c q + 8) ≡ t = omega arith in
    cond-true (leb (size_before c q + 8) q) (link_of c (q - (size_before c q + 8)) q ∷ walked n c (q - (size_before c q + 8))) []
    (le-leb (size_before c q + 8) q (omega arith))
    ∙ ap (λ x. link_of c x q ∷ walked n c x) start

pub walked-none : (c : List ℕ) (n q : ℕ) → ((p : ℕ) → FooterGives c p q → ⊥) → walked n c q ≡ []
unfolding walked
walked-none c zero q h = refl
walked-none c (suc n) q h =
    cond_both (leb (size_before c q + 8) q) (link_of c (q - (size_before c q + 8)) q ∷ walked n c (q - (size_before c q + 8))) [] (λ x. x ≡ [])
    (λ t. let fits : size_before c q + 8 ≤ q = leb-true (size_before c q + 8) q t in absurd (h (q - (size_before c q + 8)) (omega arith)))
    (λ f. refl)

pub cut_or_none : (c : List ℕ) (q : ℕ) → ((p : ℕ) × FooterGives c p q) ⊎ ((p : ℕ) → FooterGives c p q → ⊥)
cut_or_none c q =
    elim (cases_lt q (size_before c q + 8)) [
      | inl short ↦ inr (λ p cut. omega arith)
      | inr fits ↦ inl (q - (size_before c q + 8), omega arith)
    ]

-- any number of steps that is large enough gives the same walk
pub walked-fuel : (c : List ℕ) (n m q : ℕ) → q ≤ n → q ≤ m → walked n c q ≡ walked m c q
walked-fuel c zero m q h k = walked-none c zero q (λ p cut. omega arith) ∙ sym (walked-none c m q (λ p cut. omega arith))
walked-fuel c (suc n) zero q h k = walked-none c (suc n) q (λ p cut. omega arith) ∙ sym (walked-none c zero q (λ p cut. omega arith))
walked-fuel c (suc n) (suc m) q h k =
    elim (cut_or_none c q) [
      | inl w ↦ walked-more c n w.0 q w.1
          ∙ ap (λ x. link_of c w.0 q ∷ x) (walked-fuel c n m w.0 (let cut : FooterGives c w.0 q = w.1 in omega arith) (let cut : FooterGives c w.0 q = w.1 in omega arith))
          ∙ sym (walked-more c m w.0 q w.1)
      | inr none ↦ walked-none c (suc n) q none ∙ sym (walked-none c (suc m) q none)
    ]

-- ---- all links are there

pub Contains-head : {X : Type 0} (x : X) (xs : List X) → Contains (x ∷ xs) x
Contains-head x xs = (0, omega arith, refl)

pub Contains-cons : {X : Type 0} (y x : X) (xs : List X) → Contains xs x → Contains (y ∷ xs) x
Contains-cons y x xs h = (suc h.0, (let l : h.0 < length xs = h.1 in omega arith), h.2)

found : (c : List ℕ) (n top p q : ℕ) → top ≤ n → EndsFrom c top q → FooterGives c p q → Contains (walked n c top) (link_of c p q)
found c zero top p q h r cut =
    elim (front c top q r) [ inl same ↦ absurd (omega arith) | inr w ↦ absurd (let step : FooterGives c w.0 top = w.1 in omega arith) ]
found c (suc n) top p q h r cut =
    elim (front c top q r) [
      | inl same ↦ subst (λ x. Contains (walked (suc n) c x) (link_of c p q)) same
          (subst (λ xs. Contains xs (link_of c p q)) (sym (walked-more c n p q cut)) (Contains-head (link_of c p q) (walked n c p)))
      | inr w ↦ subst (λ xs. Contains xs (link_of c p q)) (sym (walked-more c n w.0 top w.1))
          (Contains-cons (link_of c w.0 top) (link_of c p q) (walked n c w.0) (found c n w.0 p q (let step : FooterGives c w.0 top = w.1 in omega arith) w.2 cut))
    ]

-- ---- nothing else is there

IsLinkOfPayload : List ℕ → LinkValue → Type 0
IsLinkOfPayload c link = (q : ℕ) × IsLinkOf c link.start q × (link ≡ link_of c link.start q)

only_links : (c : List ℕ) (n top : ℕ) → IsEnd c top → AllByRecursion (λ link. (q : ℕ) × IsLinkOf c link.start q × (link ≡ link_of c link.start q))
    (walked n c top)
unfolding walked
only_links c zero top h = tt
only_links c (suc n) top h =
    elim (cut_or_none c top) [
      | inl w ↦ subst (AllByRecursion (λ link. (q : ℕ) × IsLinkOf c link.start q × (link ≡ link_of c link.start q))) (sym (walked-more c n w.0 top w.1))
          ((top, record { is_end = h; cut = w.1 }, refl), only_links c n w.0 (before h w.1))
      | inr none ↦ subst (AllByRecursion (λ link. (q : ℕ) × IsLinkOf c link.start q × (link ≡ link_of c link.start q)))
          (sym (walked-none c (suc n) top none)) tt
    ]

-- ---- the starts fall

all_below : (c : List ℕ) (n top : ℕ) → All (λ link. link.start < top) (walked n c top)
unfolding walked
all_below c zero top = All-nil (λ link. link.start < top)
all_below c (suc n) top =
    elim (cut_or_none c top) [
      | inl w ↦
          let cut : FooterGives c w.0 top = w.1 in
          let below : w.0 < top = omega arith in
          subst (All (λ link. link.start < top)) (sym (walked-more c n w.0 top w.1))
          (All-cons (λ link. link.start < top) (link_of c w.0 top) (walked n c w.0) below
          (All-weaker (λ link. link.start < w.0) (λ link. link.start < top) (λ x h. omega arith) (walked n c w.0) (all_below c n w.0)))
      | inr none ↦ subst (All (λ link. link.start < top)) (sym (walked-none c (suc n) top none)) (All-nil (λ link. link.start < top))
    ]

falling : (c : List ℕ) (n top : ℕ) → AllPairs (λ a b. b.start < a.start) (walked n c top)
unfolding walked
falling c zero top = λ i j d h k. absurd (omega arith)
falling c (suc n) top =
    elim (cut_or_none c top) [
      | inl w ↦ subst (AllPairs (λ a b. b.start < a.start)) (sym (walked-more c n w.0 top w.1))
          (AllPairs-cons (λ a b. b.start < a.start) (link_of c w.0 top) (walked n c w.0) (all_below c n w.0) (falling c n w.0))
      | inr none ↦ subst (AllPairs (λ a b. b.start < a.start)) (sym (walked-none c (suc n) top none)) (λ i j d h k. absurd (omega arith))
    ]

pub are_links : (c : List ℕ) → AreLinksOf c (walked (length c) c (length c))
are_links c =
    record {
      all = λ p q h. found c (length c) (length c) p q (omega arith) (from_end c q h.is_end) h.cut;
      only = only_links c (length c) (length c) last;
      falling = falling c (length c) (length c);
    }

-- ---- where no slice ends is the least end

pub same_cut : (c : List ℕ) (p t q : ℕ) → FooterGives c p q → FooterGives c t q → p ≡ t
same_cut c p t q h k = omega arith

ends_below : (c : List ℕ) (top e : ℕ) → EndsFrom c top e → e ≤ top
ends_below c top e here = omega arith
ends_below c top e (more {q = q} r cut) = omega (arith, ends_below c top q r)

pub end_within : (c : List ℕ) (e : ℕ) → IsEnd c e → e ≤ length c
end_within c e h = ends_below c (length c) e (from_end c e h)

-- of two ends one is reached from the other
linear : (c : List ℕ) (top a b : ℕ) → EndsFrom c top a → EndsFrom c top b → EndsFrom c a b ⊎ EndsFrom c b a
linear c top a b here s = inl s
linear c top a b (more {q = q} r cut) s =
    elim (linear c top q b r s) [
      | inl down ↦ elim (front c q b down) [
        | inl same ↦ inr (more here (subst (λ x. FooterGives c a x) (sym same) cut))
        | inr w ↦ inl (subst (λ x. EndsFrom c x b) (same_cut c w.0 a q w.1 cut) w.2)
      ]
      | inr up ↦ inr (more up cut)
    ]

least : (c : List ℕ) (top q : ℕ) → EndsFrom c top q → ((p : ℕ) → FooterGives c p q → ⊥) → (e : ℕ) → EndsFrom c top e → q ≤ e
least c top q h none e k =
    elim (linear c top q e h k) [
      | inl down ↦ elim (front c q e down) [ inl same ↦ omega arith | inr w ↦ absurd (none w.0 w.1) ]
      | inr up ↦ ends_below c e q up
    ]

pub least_end : (c : List ℕ) (q : ℕ) → IsEnd c q → ((p : ℕ) → FooterGives c p q → ⊥) → (e : ℕ) → IsEnd c e → q ≤ e
least_end c q h none e k = least c (length c) q (from_end c q h) none e (from_end c e k)

-- ---- a turn of the iterator

pub turn_none : (w : Walk) (c : List ℕ) (q : ℕ) → walk_at c q ≡ w → ((p : ℕ) → FooterGives c p q → ⊥) → w.left ≡ []
turn_none w c q view none = sym (ap (λ x. x.left) view) ∙ walked-none c q q none

pub turn_some : (w : Walk) (c : List ℕ) (t q : ℕ) → walk_at c q ≡ w → FooterGives c t q → w.left ≡ link_of c t q ∷ walked t c t
turn_some w c t q view cut =
    sym (ap (λ x. x.left) view) ∙ walked-fuel c q (suc q) q (omega arith) (omega arith) ∙ walked-more c q t q cut
    ∙ ap (λ x. link_of c t q ∷ x) (walked-fuel c q t t (omega arith) (omega arith))

pub ends : (w : Walk) (c : List ℕ) (at q : ℕ) → walk_at c at ≡ w → IsEnd c q → ((p : ℕ) → FooterGives c p q → ⊥) → 0 < q
    → (IsEnd w.payload 0 → ⊥) × IsEnd w.payload q × ((p : ℕ) → IsEnd w.payload p → q ≤ p)
ends w c at q view h none positive =
    subst (λ x. (IsEnd x 0 → ⊥) × IsEnd x q × ((p : ℕ) → IsEnd x p → q ≤ p)) (ap (λ x. x.payload) view)
    ((λ zero_end. omega (arith, least_end c q h none 0 zero_end)), h, λ p e. least_end c q h none p e)

pub turn_fewer : (w : Walk) (c : List ℕ) (t q : ℕ) → walk_at c q ≡ w → FooterGives c t q → length (walked t c t) < length w.left
turn_fewer w c t q view cut = omega (arith, ap length (turn_some w c t q view cut))

pub few : (c : List ℕ) (n top : ℕ) → 8 * length (walked n c top) ≤ top
unfolding walked
few c zero top = omega arith
few c (suc n) top =
    elim (cut_or_none c top) [
      | inl w ↦
          let cut : FooterGives c w.0 top = w.1 in
          subst (λ xs. 8 * length xs ≤ top) (sym (walked-more c n w.0 top w.1)) (omega (arith, few c n w.0))
      | inr none ↦ subst (λ xs. 8 * length xs ≤ top) (sym (walked-none c (suc n) top none)) (omega arith)
    ]
