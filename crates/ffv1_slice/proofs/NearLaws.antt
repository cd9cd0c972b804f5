-- In a copy that is near an original, its intact slices are found and nothing else.
use Rattle.std.proofs.Common.{◌≡◌, ℕ, ◌+◌, ◌-◌, ◌<◌, ◌≤◌, List, [], ◌∷◌, ◌++◌, refl, sym, ap, ◌∙◌, subst, arith, length, take, drop, get_or, take-append-drop, min, inl, inr}
use Rattle.std.specs.Prelude.{◌==◌, slice_range}
use Rattle.std.proofs.lemmas.List.{drop-drop, length-take, length-drop, length-take-le}
use Rattle.byteorder.specs.Endian.{big_number}
use Rattle.ffv1_bits.specs.Parity.{AreBytes, PassesParity}
use Rattle.ffv1_bits.proofs.Burst.{burst}
use Rattle.ffv1_bits.proofs.Bytes.{AreBytes-range}
use Rattle.ffv1_range.specs.TileHeaders.{TileRules}
use Rattle.ffv1_slice.specs.Chain.{size_before}
use Rattle.ffv1_slice.specs.Slices.{IsSliceOf, IsFoundIn}
use Rattle.ffv1_slice.specs.Near.{starts_at, version_at, size_field, IsNear, IsIntactIn, NearFound}
use Rattle.ffv1_slice.proofs.Places.{size_in, starts_next, FooterGivesAt}
use Rattle.ffv1_slice.proofs.FoundLaws.{bytes_of_tile, original_cut, found_at, own_tile, found_there}

-- ---- the size field

size_field-size : (slice : List ℕ) → 8 ≤ length slice → size_before slice (length slice) ≡ big_number 3 (size_field slice)
size_field-size slice long =
    let eight : length slice - (length slice - 8) ≡ 8 = omega arith in
    let three : length slice - 5 - (length slice - 8) ≡ 3 = omega arith in
    ap (λ n. big_number 3 (take n (drop (length slice - 8) slice))) eight
    ∙ big_number_front (drop (length slice - 8) slice)
    ∙ ap (λ n. big_number 3 (take n (drop (length slice - 8) slice))) (sym three)
  where
    big_number_front : (xs : List ℕ) → big_number 3 (take 8 xs) ≡ big_number 3 (take 3 xs)
    big_number_front [] = refl
    big_number_front (a ∷ []) = refl
    big_number_front (a ∷ b ∷ []) = refl
    big_number_front (a ∷ b ∷ c ∷ xs) = refl

-- bytes with the same size field give the same size
pub same_size_field : (slice link : List ℕ) → 8 ≤ length slice → 8 ≤ length link → size_field link ≡ size_field slice
    → size_before link (length link) ≡ size_before slice (length slice)
same_size_field slice link long other same = size_field-size link other ∙ ap (big_number 3) same ∙ sym (size_field-size slice long)

-- ---- bytes where they stand

pub length-range : (xs : List ℕ) (p q : ℕ) → p ≤ q → q ≤ length xs → length (slice_range xs p q) ≡ q - p
length-range xs p q low high = length-take-le (q - p) (drop p xs) (omega (arith, length-drop p xs))

around_range : (xs : List ℕ) (p q : ℕ) → p ≤ q → take p xs ++ (slice_range xs p q ++ drop q xs) ≡ xs
around_range xs p q low =
    let on : p + (q - p) ≡ q = omega arith in
    ap (λ n. take p xs ++ (slice_range xs p q ++ drop n xs)) (sym on)
    ∙ ap (λ ys. take p xs ++ (slice_range xs p q ++ ys)) (sym (drop-drop (q - p) p xs))
    ∙ ap (λ ys. take p xs ++ ys) (take-append-drop (q - p) (drop p xs))
    ∙ take-append-drop p xs

-- the footer that ends at q is that of the bytes that end there
pub size_of_range : (xs : List ℕ) (p q : ℕ) → p + 8 ≤ q → q ≤ length xs → size_before xs q ≡ size_before (slice_range xs p q) (length (slice_range xs p q))
size_of_range xs p q low high =
    let link = slice_range xs p q in
    let size : length (slice_range xs p q) ≡ q - p = length-range xs p q (omega arith) high in
    let front : length (take p xs) ≡ p = length-take-le p xs (omega arith) in
    let end : length (take p xs) + length (slice_range xs p q) ≡ q = omega arith in
    ap (λ z. size_before z q) (sym (around_range xs p q (omega arith)))
    ∙ ap (size_before (take p xs ++ (slice_range xs p q ++ drop q xs))) (sym end)
    ∙ size_in (take p xs) (slice_range xs p q) (drop q xs) (omega arith)

-- ---- a copy that is near an original

module _ (rules : TileRules) (original : List ℕ) (slices : List (List ℕ)) (copy : List ℕ) (near : IsNear rules original slices copy) where
  cut : FooterGivesAt original slices
  cut = original_cut rules original slices near.is_original

  own : (k : ℕ) → k < length slices → IsSliceOf rules (get_or slices k []) (k == 0) k
  own k lt = near.is_original.each k [] lt

  next : (k : ℕ) → k < length slices → starts_at slices (k + 1) ≡ starts_at slices k + length (get_or slices k [])
  next k lt = starts_next slices k [] lt

  -- what stands at a slice's places is within the copy
  inside : (k : ℕ) → k < length slices → starts_at slices (k + 1) ≤ length copy
  inside k lt =
      let long : 8 ≤ length (get_or slices k []) = cut.long k lt in
      let ends : starts_at slices (k + 1) ≡ starts_at slices k + length (get_or slices k []) = next k lt in
      let here : length (slice_range original (starts_at slices k) (starts_at slices (k + 1))) ≡ length (get_or slices k []) =
      ap length (bytes_of_tile rules original slices near.is_original k lt) in
      let room : length (slice_range original (starts_at slices k) (starts_at slices (k + 1))) ≡ min (starts_at slices (k + 1) - starts_at slices k)
      (length original - starts_at slices k) =
      length-take (starts_at slices (k + 1) - starts_at slices k) (drop (starts_at slices k) original)
      ∙ ap (min (starts_at slices (k + 1) - starts_at slices k)) (length-drop (starts_at slices k) original) in
      let same : length copy ≡ length original = near.same_length in
      omega arith

  link_length : (k : ℕ) → k < length slices → length (version_at slices copy k) ≡ length (get_or slices k [])
  link_length k lt = length-range copy (starts_at slices k) (starts_at slices (k + 1)) (omega (arith, next k lt)) (inside k lt) ∙ omega (arith, next k lt)

  -- its size field is the slice's
  link_size : (k : ℕ) → k < length slices → size_before (version_at slices copy k) (length (version_at slices copy k)) ≡ length (get_or slices k []) - 8
  link_size k lt =
      elim (near.each k [] lt) [
        | inl same ↦ ap (λ z. size_before z (length z)) same ∙ (own k lt).framed.size
        | inr damaged ↦
            let long : 8 ≤ length (get_or slices k []) = cut.long k lt in
            same_size_field (get_or slices k []) (version_at slices copy k) long (omega (arith, link_length k lt)) damaged.size ∙ (own k lt).framed.size
      ]

  -- so the copy is cut as the original is
  copy_cut : FooterGivesAt copy slices
  copy_cut = record {
    long = cut.long;
    whole = cut.whole ∙ sym near.same_length;
    cut = λ k lt.
        let long : 8 ≤ length (get_or slices k []) = cut.long k lt in
        let ends = next k lt in
        let size = size_of_range copy (starts_at slices k) (starts_at slices (k + 1)) (omega arith) (inside k lt) ∙ link_size k lt in
        omega arith;
  }

  -- what stands at a slice's places and passes its parity, as the original's slice does, is intact
  intact : (k : ℕ) → k < length slices → PassesParity (version_at slices copy k) → version_at slices copy k ≡ get_or slices k []
  intact k lt passes =
      elim (near.each k [] lt) [
        | inl same ↦ same
        | inr damaged ↦
            let slice_bytes : AreBytes (get_or slices k []) = subst AreBytes (bytes_of_tile rules original slices near.is_original k lt)
            (AreBytes-range original (starts_at slices k) (starts_at slices (k + 1)) near.original_bytes) in
            sym (burst (get_or slices k []) (version_at slices copy k) damaged.at slice_bytes
            (AreBytes-range copy (starts_at slices k) (starts_at slices (k + 1)) near.copy_bytes) damaged.differ (own k lt).passes passes)
      ]

  near_from : (tile : ℕ) (slice : List ℕ) → IsFoundIn rules copy tile slice → (tile < length slices) × (slice ≡ get_or slices tile slice)
      × IsIntactIn slices copy tile slice
  near_from tile slice h =
      let at = found_at rules original copy slices near.is_original copy_cut tile slice h in
      let whole = intact at.0 at.1 (subst PassesParity at.2 at.3.passes) in
      let mine = own_tile rules original copy slices near.is_original copy_cut at.0 tile slice at.1 (at.2 ∙ whole) at.3 in
      (subst (λ z. z < length slices) (sym mine.0) at.1, mine.1, ap (version_at slices copy) mine.0 ∙ sym at.2)

  near_to : (tile : ℕ) (slice : List ℕ) → (tile < length slices) × (slice ≡ get_or slices tile slice) × IsIntactIn slices copy tile slice
      → IsFoundIn rules copy tile slice
  near_to tile slice h = found_there rules original copy slices near.is_original copy_cut tile slice h.0 h.1 h.2

pub near_found : NearFound
near_found rules original slices copy near tile slice = (
  near_from rules original slices copy near tile slice,
  near_to rules original slices copy near tile
      slice,
)
