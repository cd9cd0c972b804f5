-- Bytes that are the same place by place.
use Rattle.ffv1_splice.proofs.Common.{◌≡◌, ℕ, ◌+◌, ◌-◌, ◌<◌, ◌≤◌, List, [], ◌∷◌, ◌++◌, length, take, refl, sym, ap, ◌∙◌, subst, arith, All, slice_range, take-add, take_all, All-head, All-tail, All-weaker, SplicedValue, LieFrom, RiseFrom, IsSpliceOf, Place}
use Rattle.ffv1_splice.proofs.SplicePlaces.{lower, lower_rise, above_upright, lower_upright, start_within}

module _ (a b : List ℕ) where
  -- the same bytes stand there
  abbrev pub IsSameAt : Place → Type 0
  IsSameAt place = slice_range a place.start place.end ≡ slice_range b place.start place.end

  pub take_on : (bytes : List ℕ) (start end : ℕ) → start ≤ end → take end bytes ≡ take start bytes ++ slice_range bytes start end
  take_on bytes start end h =
      let on : end ≡ start + (end - start) = omega arith in
      ap (λ n. take n bytes) on ∙ take-add start (end - start) bytes

  pub same_on : (start end : ℕ) → start ≤ end → take start a ≡ take start b → slice_range a start end ≡ slice_range b start end → take end a ≡ take end b
  same_on start end h front slice =
      take_on a start end h ∙ ap (λ z. z ++ slice_range a start end) front ∙ ap (λ z. take start b ++ z) slice ∙ sym (take_on b start end h)

  pub same_down : (end : ℕ) (places : List Place) (front : ℕ) → LieFrom end places front → All (λ place. place.start ≤ place.end) places
      → All IsSameAt places → take front a ≡ take front b → take end a ≡ take end b
  same_down end [] front lie up same before = subst (λ n. take n a ≡ take n b) (sym lie) before
  same_down end (place ∷ places) front lie up same before =
      let rest = same_down place.start places front lie.1 (All-tail (λ place. place.start ≤ place.end) place places up)
      (All-tail IsSameAt place places same) before in
      grind (arith, same_on, All-head)

  pub same_up : (start : ℕ) (places : List Place) (top : ℕ) → RiseFrom start places top → All (λ place. place.start ≤ place.end) places
      → All IsSameAt places → take start a ≡ take start b → take top a ≡ take top b
  same_up start [] top rise up same before = subst (λ n. take n a ≡ take n b) rise before
  same_up start (place ∷ places) top rise up same before =
      let front : take place.start a ≡ take place.start b = subst (λ n. take n a ≡ take n b) (sym rise.0) before in
      cc (same_up place.end places top rise.1 (All-tail (λ place. place.start ≤ place.end) place places up) (All-tail IsSameAt place places same) (same_on place.start place.end (All-head (λ place. place.start ≤ place.end) place places up) front (All-head IsSameAt place places same)))

-- A splice has the bytes that it has above its hole, in it and below it.
pub same_by_parts : (copies : List (List ℕ)) (spliced : SplicedValue) (is : IsSpliceOf copies spliced) (bytes : List ℕ)
    → length spliced.payload ≡ length bytes → All (IsSameAt spliced.payload bytes) is.above → All (IsSameAt spliced.payload bytes) (lower copies spliced is)
    → is.hole.payload ≡ slice_range bytes is.start is.end → spliced.payload ≡ bytes
same_by_parts copies spliced is bytes long above below hole =
    let a : List ℕ = spliced.payload in
    let to_start : take is.start a ≡ take is.start bytes =
    cc (same_up a bytes 0 (lower copies spliced is) is.start (lower_rise copies spliced is) (All-weaker (λ place. place.start < place.end) (λ place. place.start ≤ place.end) (λ place order. omega arith) (lower copies spliced is) (lower_upright copies spliced is)) below refl) in
    let to_end : take is.end a ≡ take is.end bytes = cc (same_on a bytes is.start is.end (start_within copies spliced is) to_start (sym is.bytes ∙ hole)) in
    let all : take (length a) a ≡ take (length a) bytes = grind (arith, same_down, above_upright) in
    sym (take_all (length a) a (omega arith)) ∙ all ∙ take_all (length a) bytes (omega (arith, long))
