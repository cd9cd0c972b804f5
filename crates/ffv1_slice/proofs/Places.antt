-- Slices laid one after the other, and the ends of a payload whose footers cut it at the slices' places.
use Rattle.std.proofs.Common.{◌≡◌, ℕ, suc, zero, ◌+◌, ◌-◌, ◌<◌, ◌≤◌, List, [], ◌∷◌, ◌++◌, refl, sym, ap, ◌∙◌, subst, arith, length, take, drop, get_or, take-append-drop, drop-cons}
use Rattle.std.specs.Prelude.{◌==◌, slice_range}
use Rattle.std.specs.List.{flat_map}
use Rattle.std.proofs.Math.Seq.{drop-append-add, drop-append_seam, take-append_seam}
use Rattle.std.proofs.lemmas.List.{append-nil, drop-append-le, take-append-le, take_more, take-take, drop-take, length-append, length-drop}
use Rattle.std.proofs.lemmas.Grind.{flat_map-append}
use Rattle.std.proofs.lemmas.Bool.{ne_eqb}
use Rattle.byteorder.specs.Endian.{big_number}
use Rattle.ffv1_slice.specs.Chain.{footer_before, size_before, FooterGives, IsEnd}
use Rattle.ffv1_slice.specs.Chain.IsEnd.{last, before}
use Rattle.ffv1_slice.specs.Near.{starts_at}

-- ---- slices joined one after the other

unfoldable pub joined : List (List ℕ) → List ℕ
joined slices = flat_map (λ slice. slice) slices

-- the footer of a slice in the middle is its own
pub size_in : (front slice back : List ℕ) → 8 ≤ length slice → size_before (front ++ (slice ++ back)) (length front + length slice) ≡ size_before slice
    (length slice)
size_in front slice back long =
    let n = length slice in
    let low : length front + length slice - 8 ≡ length front + (length slice - 8) = omega arith in
    let eight : length front + length slice - (length front + (length slice - 8)) ≡ 8 = omega arith in
    let own : length slice - (length slice - 8) ≡ 8 = omega arith in
    let room : 8 ≤ length (drop (length slice - 8) slice) = simp length-drop (omega arith) in
    let tail : drop (length front + (length slice - 8)) (front ++ (slice ++ back)) ≡ drop (length slice - 8) slice ++ back =
    drop-append-add front (slice ++ back) (length slice - 8) ∙ drop-append-le (length slice - 8) slice back (omega arith) in
    let footer : footer_before (front ++ (slice ++ back)) (length front + length slice) ≡ footer_before slice (length slice) =
    ap (λ z. slice_range (front ++ (slice ++ back)) z (length front + length slice)) low
    ∙ ap (λ z. take z (drop (length front + (length slice - 8)) (front ++ (slice ++ back)))) eight
    ∙ ap (take 8) tail ∙ take-append-le 8 (drop (length slice - 8) slice) back room
    ∙ ap (λ z. take z (drop (length slice - 8) slice)) (sym own) in
    ap (big_number 3) footer

pub range_in : (front slice back : List ℕ) → slice_range (front ++ (slice ++ back)) (length front) (length front + length slice) ≡ slice
range_in front slice back =
    let size : length front + length slice - length front ≡ length slice = omega arith in
    ap (λ z. take z (drop (length front) (front ++ (slice ++ back)))) size ∙ ap (take (length slice)) (drop-append_seam front (slice ++ back))
    ∙ take-append_seam slice back

-- the payload around the slice of number k
pub around : (slices : List (List ℕ)) (k : ℕ) (d : List ℕ) → k < length slices
    → joined slices ≡ joined (take k slices) ++ (get_or slices k d ++ joined (drop (suc k) slices))
unfolding joined
around slices k d h =
    ap (flat_map (λ slice. slice)) (sym (take-append-drop k slices) ∙ ap (λ z. take k slices ++ z) (drop-cons slices k d h))
    ∙ flat_map-append (λ slice. slice) (take k slices) (get_or slices k d ∷ drop (suc k) slices)

pub starts_next : (slices : List (List ℕ)) (k : ℕ) (d : List ℕ) → k < length slices → starts_at slices (k + 1) ≡ starts_at slices k + length (get_or slices k d)
unfolding starts_at joined
starts_next slices k d h =
    ap (λ z. length (flat_map (λ slice. slice) z)) (take_more slices k d h)
    ∙ ap length (flat_map-append (λ slice. slice) (take k slices) (get_or slices k d ∷ [])
    ∙ ap (λ z. flat_map (λ slice. slice) (take k slices) ++ z) (append-nil (get_or slices k d)))
    ∙ length-append (flat_map (λ slice. slice) (take k slices)) (get_or slices k d)

-- nothing stands before the first
pub starts_none : (slices : List (List ℕ)) → starts_at slices 0 ≡ 0
unfolding starts_at
starts_none slices = refl

-- ---- the ends of a payload that is cut at the slices' places

-- Slices have their footers, they are as long as the payload, and the payload's footers cut it where they meet.
pub record FooterGivesAt (payload : List ℕ) (slices : List (List ℕ)) : Type 0 where
  pub long : (k : ℕ) → k < length slices → 8 ≤ length (get_or slices k [])
  pub whole : starts_at slices (length slices) ≡ length payload
  pub cut : (k : ℕ) → k < length slices → FooterGives payload (starts_at slices k) (starts_at slices (k + 1))

module _ (payload : List ℕ) (slices : List (List ℕ)) (is : FooterGivesAt payload slices) where
  -- each tile's start is an end, counted back from the last
  end_back : (n : ℕ) → n ≤ length slices → IsEnd payload (starts_at slices (length slices - n))
  end_back zero h = subst (IsEnd payload) (sym (ap (starts_at slices) (omega arith) ∙ is.whole)) last
  end_back (suc n) h =
      let k : ℕ = length slices - suc n in
      let next : length slices - n ≡ length slices - suc n + 1 = omega arith in
      before (subst (λ z. IsEnd payload (starts_at slices z)) next (end_back n (omega arith))) (is.cut (length slices - suc n) (omega arith))

  pub end_of_tile : (k : ℕ) → k ≤ length slices → IsEnd payload (starts_at slices k)
  end_of_tile k h =
      let same : length slices - (length slices - k) ≡ k = omega arith in
      subst (λ z. IsEnd payload (starts_at slices z)) same (end_back (length slices - k) (omega arith))

  pub same_start : (p k q : ℕ) → k < length slices → q ≡ starts_at slices (k + 1) → FooterGives payload p q → p ≡ starts_at slices k
  same_start p k q h e cut =
      let own : FooterGives payload (starts_at slices k) (starts_at slices (k + 1)) = is.cut k h in
      let moved : FooterGives payload p (starts_at slices (k + 1)) = subst (FooterGives payload p) e cut in omega arith

  -- and there are no other ends
  tile_at_end : (q : ℕ) → IsEnd payload q → (k : ℕ) × (k ≤ length slices) × (q ≡ starts_at slices k)
  tile_at_end q last = (length slices, omega arith, sym is.whole)
  tile_at_end q (before {q = r} end cut) =
      let at = tile_at_end r end in below q r at.0 at.1 at.2 cut
    where
      below : (q r k : ℕ) → k ≤ length slices → r ≡ starts_at slices k → FooterGives payload q r → (j : ℕ) × (j ≤ length slices) × (q ≡ starts_at slices j)
      below q r zero h e cut = absurd (let none : starts_at slices 0 ≡ 0 = starts_none slices in omega arith)
      below q r (suc k) h e cut = (
        k,
        omega arith,
        same_start q k r (omega arith) (let next : suc k ≡ k + 1 = omega arith in e
            ∙ ap (starts_at slices) next) cut,
      )

  -- so each cut is that of a tile
  pub tile_of_cut : (p q : ℕ) → IsEnd payload q → FooterGives payload p q → (k : ℕ) × (k < length slices) × (p ≡ starts_at slices k) × (q ≡ starts_at slices (k + 1))
  tile_of_cut p q end cut = let at = tile_at_end q end in above at.0 at.1 at.2
    where
      above : (k : ℕ) → k ≤ length slices → q ≡ starts_at slices k → (k : ℕ) × (k < length slices) × (p ≡ starts_at slices k) × (q ≡ starts_at slices (k + 1))
      above zero few e = absurd (let none : starts_at slices 0 ≡ 0 = starts_none slices in omega arith)
      above (suc k) few e =
          let next : suc k ≡ k + 1 = omega arith in
          let at : q ≡ starts_at slices (k + 1) = e ∙ ap (starts_at slices) next in
          (k, omega arith, same_start p k q (omega arith) at cut, at)

  -- only tile 0 begins at the payload's start
  pub first_tile : (k : ℕ) → k < length slices → (starts_at slices k == 0) ≡ (k == 0)
  first_tile zero h = ap (λ n. n == 0) (starts_none slices)
  first_tile (suc k) h =
      let next : starts_at slices (k + 1) ≡ starts_at slices k + length (get_or slices k []) = starts_next slices k [] (omega arith) in
      let long : 8 ≤ length (get_or slices k []) = is.long k (omega arith) in
      let number : suc k ≡ k + 1 = omega arith in
      let same : starts_at slices (suc k) ≡ starts_at slices (k + 1) = ap (starts_at slices) number in
      ne_eqb (starts_at slices (suc k)) 0 (λ e. omega arith) ∙ sym (ne_eqb (suc k) 0 (λ e. omega arith))

-- what stands before a place, with what stands between it and a later one
pub taken_on : (whole : List ℕ) (from to : ℕ) → from ≤ to → take from whole ++ slice_range whole from to ≡ take to whole
taken_on whole from to low =
    let on : from + (to - from) ≡ to = omega arith in
    ap (λ z. take from whole ++ z) (sym (drop-take from (to - from) whole) ∙ ap (λ n. drop from (take n whole)) on)
    ∙ ap (λ z. z ++ drop from (take to whole)) (sym (take-take from to whole low))
    ∙ take-append-drop from (take to whole)
