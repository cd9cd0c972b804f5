-- Of items that come, one after the other, those that are not held yet.
use Rattle.std.proofs.Common.{◌≡◌, ℕ, ◌+◌, ◌-◌, ◌<◌, ◌≤◌, true, List, [], ◌∷◌, ◌++◌, length, map, take, get_or, sym, refl, ap, subst, ◌∙◌, ◌||◌, inl, inr, arith, length-append}
use Rattle.std.specs.Cmp.{IsTotalOrder}
use Rattle.std.specs.FinMap.{IsAntisymmetric}
use Rattle.std.specs.declared.cmp.Ordering.{Ordering}
use Rattle.std.specs.declared.cmp.Ordering.TheVariants.{Less}
use Rattle.std.proofs.lemmas.Bool.{cases_lt}
use Rattle.std.proofs.lemmas.List.{length-map, get_or-map, map-append, take_more, get_or_default}
use Rattle.std.proofs.Math.ListN.{get_or-append}
use Rattle.std.proofs.Math.Seq.{get_or-append_right}
use Rattle.ffv1_holding.specs.Sets as set
use Rattle.ffv1_holding.specs.Rising.{IsRising}
use Rattle.ffv1_holding.specs.Inner.Rising.{IsInsertionPlace, IsPlaceOf}
use Rattle.ffv1_holding.proofs.RisingSets.{contains_placed, insert_present}
use Rattle.ffv1_holding.proofs.ItemsRise.{rising-append, rising_one}

-- a fact of the items of a list, and of one more at its end
pub each-push : {X : Type 0} (P : X → Type 0) (xs : List X) (x : X) → ((i : ℕ) (d : X) → i < length xs → P (get_or xs i d)) → P x
    → (i : ℕ) (d : X) → i < length (xs ++ x ∷ []) → P (get_or (xs ++ x ∷ []) i d)
each-push P xs x each here i d lt =
    let long = length-append xs (x ∷ []) in
    elim (cases_lt i (length xs)) [
      | inl before ↦ rw (get_or-append xs (x ∷ []) d i before) (each i d before)
      | inr after ↦ rw (get_or-append_right xs (x ∷ []) i d after) (last (i - length xs) (omega arith))
    ]
  where
    last : (k : ℕ) → k ≡ 0 → P (get_or (x ∷ []) k d)
    last k e = rw e here

-- of the first so many that come, just those are listed that are not held
pub record AreSifted {K F : Type 0} (R : K → K → Ordering) (place : F → ℕ) (key : F → K) (held coming : List K) (passed : ℕ) (fresh : List F) : Type 0 where
  pub gaps : (i : ℕ) (d : F) → i < length fresh → IsInsertionPlace R held (key (get_or fresh i d)) (place (get_or fresh i d))
  pub rising : IsRising R (map key fresh)
  pub below : (j k : ℕ) (d : F) (e : K) → j < length fresh → passed ≤ k → k < length coming → R (key (get_or fresh j d)) (get_or coming k e) ≡ Less
  pub all : set.union (set.from_list {R = R} held) (set.from_list (map key fresh)) ≡ set.union (set.from_list held) (set.from_list (take passed coming))

module _ {K F : Type 0} {R : K → K → Ordering} (o : IsTotalOrder R) (same : IsAntisymmetric R) (place : F → ℕ) (key : F → K) (held coming : List K) where
  pub none_sifted : AreSifted R place key held coming 0 []
  none_sifted = record {
    gaps = λ i d lt. absurd (omega arith);
    rising = λ i j d before lt. absurd (omega arith);
    below = λ j k d e lt ge in_range. absurd (omega arith);
    all = refl;
  }

  -- an item that is held adds nothing
  all_held : (xs : List K) (v : K) → set.contains (set.from_list {R = R} held) v ≡ true
      → set.union (set.from_list {R = R} held) (set.from_list (xs ++ v ∷ [])) ≡ set.union (set.from_list held) (set.from_list xs)
  all_held xs v there =
      set.union-push o same (set.from_list held) xs v
      ∙ insert_present o same (set.union (set.from_list held) (set.from_list xs)) v
      (set.contains-union o (set.from_list held) (set.from_list xs) v
      ∙ ap (λ b. b || set.contains (set.from_list {R = R} xs) v) there)

  module _ (n : ℕ) (d : K) (fresh : List F) (lt : n < length coming) (is : AreSifted R place key held coming n fresh) where
    more : set.union (set.from_list {R = R} held) (set.from_list (take (n + 1) coming)) ≡ set.union (set.from_list held)
        (set.from_list (take n coming ++ get_or coming n d ∷ []))
    more = ap (λ xs. set.union (set.from_list {R = R} held) (set.from_list xs)) (take_more coming n d lt)

    pub sifted_held : (at : ℕ) → IsPlaceOf held (get_or coming n d) at → AreSifted R place key held coming (n + 1) fresh
    sifted_held at found = record {
      gaps = is.gaps;
      rising = is.rising;
      below = λ j k f e in_j ge in_k. is.below j k f e in_j (omega arith) in_k;
      all = is.all ∙ sym (all_held (take n coming) (get_or coming n d) (contains_placed o held (get_or coming n d) at found)) ∙ sym more;
    }

    pub sifted_new : IsRising R coming → (f : F) → key f ≡ get_or coming n d → IsInsertionPlace R held (key f) (place f)
        → AreSifted R place key held coming (n + 1) (fresh ++ f ∷ [])
    sifted_new rises f own gap =
        let long = length-map fresh key in
        let mapped = map-append key fresh (f ∷ []) in
        let up : IsRising R (map key fresh ++ key f ∷ []) =
        rising-append R (map key fresh) (key f ∷ []) is.rising (rising_one R (key f))
        (λ i j e in_i in_j. rw (get_or-map key fresh i f e (omega arith), one_at j e (omega arith), own)
        (is.below i n f d (omega arith) (omega arith) lt)) in
        record {
          gaps = each-push (λ x. IsInsertionPlace R held (key x) (place x)) fresh f is.gaps gap;
          rising = subst (IsRising R) (sym mapped) up;
          below = λ j k x e in_j ge in_k.
              each-push (λ y. R (key y) (get_or coming k e) ≡ Less) fresh f
              (λ i y in_i. is.below i k y e in_i (omega arith) in_k)
              (rw (own, get_or_default coming n d e lt) (rises n k e (omega arith) in_k)) j x in_j;
          all = ap (λ xs. set.union (set.from_list {R = R} held) (set.from_list xs)) mapped
              ∙ set.union-push o same (set.from_list held) (map key fresh) (key f)
              ∙ (λ i. set.insert (is.all i) (own i))
              ∙ sym (set.union-push o same (set.from_list held) (take n coming) (get_or coming n d)) ∙ sym more;
        }
      where
        one_at : (j : ℕ) (e : K) → j < 1 → get_or (key f ∷ []) j e ≡ key f
        one_at j e in_j = ap (λ n. get_or (key f ∷ []) n e) {x = j} {y = 0} (omega arith)
