-- Copies that are near the slices of a setup are near copies; two of the frame of two slices, of which each has one slice intact, are
-- spliced to the frame; zeros, which read as a row of slices without content, have no places; a slice whose size field is lost in both
-- copies is woven from the front; and places are written in words.
use Rattle.ffv1_splice.proofs.Common.{◌≡◌, ℕ, zero, suc, ◌+◌, ◌-◌, ◌<◌, ◌≤◌, List, [], ◌∷◌, length, get_or, map, drop, replicate, refl, sym, ap, ◌∙◌, subst, arith, inl, inr, ◌⊎◌, ◌==◌, Contains, codes, slice_range, digits, nat_cmp, slice_cmp, ext_get_or, take-replicate, drop-replicate, All-nil, number_bits, bits_of, AreBytes, PassesParity, polynomial_of, divided, remainder_of, TileRules, size_before, FooterGives, IsEnd, IsLinkOf, IsOriginal, starts_at, version_at, IsDamagedWithin32, IsNear, starts_none, FooterGivesAt, end_of_tile, tile_of_cut, original_cut, bytes_of_tile, length-range, size_of_range, splits, IsCombinationBy, HasFew, IsTriedBy, AreFew, HasContent, IsLeast, versions_at, sized, StandsAs, IsStop, SplicedValue, IsSettledDown, IsSettledUp, IsDivisionOf, IsSpliceOf, IsUndamaged, IsIntact, IsNearCopy, AreNearCopies, IsIntactInSome, standing_word, place_words, Woven, Voted, Repaired}
use Rattle.ffv1_slice.proofs.NearVectors as vectors
use Rattle.ffv1_slice.proofs.SliceFacts.{slice_filled}
use Rattle.ffv1_slice.proofs.Links.{end_within}
use Rattle.ffv1_splice.specs.Laws as laws
use Rattle.ffv1_splice.proofs.NearCopies.{near_copies_splice}

-- ---- slices of a setup

module _ (rules : TileRules) (original : List ℕ) (slices : List (List ℕ)) (is : IsOriginal rules original slices) where
  cut : FooterGivesAt original slices
  cut = original_cut rules original slices is

  -- a link is a tile's slice
  slice_of_link : (start end : ℕ) → IsLinkOf original start end
      → (k : ℕ) × (k < length slices) × (start ≡ starts_at slices k) × (end ≡ starts_at slices (k + 1)) × (slice_range original start end ≡ get_or slices k [])
  slice_of_link start end link =
      let at = tile_of_cut original slices cut start end link.is_end link.cut in (
        at.0,
        at.1,
        at.2,
        at.3,
        ap (λ s. slice_range original s end) at.2 ∙ ap (λ e. slice_range original (starts_at slices at.0) e) at.3
            ∙ bytes_of_tile rules original slices is at.0 at.1,
      )

  pub undamaged_of_setup : AreBytes original → IsUndamaged original
  undamaged_of_setup bytes = record {
    whole = subst (IsEnd original) (starts_none slices) (end_of_tile original slices cut 0 (omega arith));
    are_bytes = bytes;
    content = λ start end link.
        let cut : FooterGives original start end = link.cut in
        let at = slice_of_link start end link in
        let size = length-range original start end (omega arith) (end_within original end link.is_end) in
        let filled = slice_filled rules (get_or slices at.0 []) (at.0 == 0) at.0 (is.each at.0 [] at.1) in
        omega (arith, ap length at.4);
    passes = λ start end link. let at = slice_of_link start end link in subst PassesParity (sym at.4) (is.each at.0 [] at.1).passes;
  }

pub near_of_setup : (rules : TileRules) (original : List ℕ) (slices : List (List ℕ)) (copy : List ℕ) → IsNear rules original slices copy
    → IsNearCopy original copy
near_of_setup rules original slices copy near = record { are_bytes = near.copy_bytes; same_length = near.same_length; each = each }
  where
    each : (start end : ℕ) → IsLinkOf original start end
        → IsIntact original copy start end ⊎ IsDamagedWithin32 (slice_range original start end) (slice_range copy start end)
    each start end link =
        let at = slice_of_link rules original slices near.is_original start end link in
        let piece : version_at slices copy at.0 ≡ slice_range copy start end =
        ap (λ s. slice_range copy s (starts_at slices (at.0 + 1))) (sym at.2) ∙ ap (λ e. slice_range copy start e) (sym at.3) in
        elim (near.each at.0 [] at.1) [
          | inl intact ↦ inl (sym piece ∙ intact ∙ sym at.4)
          | inr damaged ↦ inr (subst (λ p. IsDamagedWithin32 (slice_range original start end) p) piece
              (subst (λ s. IsDamagedWithin32 s (version_at slices copy at.0)) (sym at.4) damaged))
        ]

-- ---- two copies of a frame

abbrev pub copies : List (List ℕ)
copies = vectors.damaged_frame ∷ vectors.other_frame ∷ []

near_each : (copy : List ℕ) → Contains copies copy → IsNearCopy vectors.frame copy
near_each copy there = at there.0 there.1 there.2
  where
    at : (k : ℕ) → k < 2 → get_or copies k copy ≡ copy → IsNearCopy vectors.frame copy
    at zero lt same = subst (IsNearCopy vectors.frame) same (near_of_setup vectors.rules vectors.frame vectors.slices vectors.damaged_frame vectors.near)
    at (suc zero) lt same =
        subst (IsNearCopy vectors.frame) same (near_of_setup vectors.rules vectors.frame vectors.slices vectors.other_frame vectors.other_near)
    at (suc (suc k)) lt same = absurd (omega arith)

pub are_near : AreNearCopies vectors.frame copies
are_near = record { undamaged = undamaged_of_setup vectors.rules vectors.frame vectors.slices vectors.is_original vectors.near.original_bytes; near = near_each }

intact_each : (start end : ℕ) → IsLinkOf vectors.frame start end → IsIntactInSome vectors.frame copies start end
intact_each start end link = let at = slice_of_link vectors.rules vectors.frame vectors.slices vectors.is_original start end link in
    intact at.0 at.1 at.2 at.3 at.4
  where
    piece : (copy : List ℕ) (k : ℕ) → start ≡ starts_at vectors.slices k → end ≡ starts_at vectors.slices (k + 1)
        → slice_range copy start end ≡ version_at vectors.slices copy k
    piece copy k s e = ap (λ n. slice_range copy n end) s ∙ ap (λ n. slice_range copy (starts_at vectors.slices k) n) e

    intact : (k : ℕ) → k < 2 → start ≡ starts_at vectors.slices k → end ≡ starts_at vectors.slices (k + 1)
        → slice_range vectors.frame start end ≡ get_or vectors.slices k [] → IsIntactInSome vectors.frame copies start end
    intact zero lt s e is = (vectors.other_frame, (1, omega arith, refl), piece vectors.other_frame 0 s e ∙ vectors.first_intact ∙ sym is)
    intact (suc zero) lt s e is = (vectors.damaged_frame, (0, omega arith, refl), piece vectors.damaged_frame 1 s e ∙ vectors.second_intact ∙ sym is)
    intact (suc (suc k)) lt s e is = absurd (omega arith)

-- neither has the frame, and both together have it
pub spliced_to_the_frame : (spliced : SplicedValue) → IsSpliceOf copies spliced → laws.IsSplicedOriginal vectors.frame spliced
spliced_to_the_frame spliced is = near_copies_splice.original vectors.frame copies spliced are_near intact_each is

-- ---- zeros

abbrev zeros : List ℕ
zeros = replicate 16 0

-- eight zeros are a footer of size 0 that passes its parity
zeros_pass : FooterGives zeros 8 16 × PassesParity (slice_range zeros 8 16)
unfolding number_bits bits_of polynomial_of divided remainder_of
zeros_pass = (omega arith, (omega arith, refl))

-- of one copy alone, the only one
only_copy : (alone copy : List ℕ) → Contains (alone ∷ []) copy → copy ≡ alone
only_copy alone copy there = grind arith

-- each footer within them gives size 0
zeros_size : (end : ℕ) → 8 ≤ end → end ≤ 16 → size_before zeros end ≡ 0
zeros_size end footer within =
    let eight : end - (end - 8) ≡ 8 = omega arith in
    let rest : drop (end - 8) zeros ≡ replicate (16 - (end - 8)) 0 = drop-replicate (end - 8) 16 0 in
    let all : slice_range zeros (end - 8) end ≡ replicate 8 0 = grind (arith, take-replicate) in
    size_of_range zeros (end - 8) end (omega arith) within ∙ ap (λ slice. size_before slice (length slice)) all

zeros_cut : (copy : List ℕ) (start end : ℕ) → Contains (zeros ∷ []) copy → end ≤ 16 → FooterGives copy start end → HasContent start end → ⊥
zeros_cut copy start end there within cut content = grind (arith, only_copy, cut, zeros_size)

-- with the size of a slice that is as long they do not pass
sized_zeros_fail : PassesParity (sized zeros) → ⊥
unfolding number_bits bits_of polynomial_of divided remainder_of
sized_zeros_fail passes = absurd (omega arith)

-- so no slice with content ends or begins within them
pub zeros_stop : IsStop (zeros ∷ []) 16
zeros_stop = record {
  unsettled = λ piece only. zeros_cut only.there.copy piece.start 16 only.there.there (omega arith) only.there.cut only.there.content;
  no_claim = λ start only. zeros_cut only.there.copy start 16 only.there.there (omega arith) only.there.cut only.there.content;
  unclaimed = λ bytes count front.
      let valid = front.weave'.0.there in
      let here : Contains (sized zeros ∷ []) (sized zeros) = (0, omega arith, refl) in
      let same : bytes ≡ sized zeros = ext_get_or 0 bytes (sized zeros) (valid.combination.same_length (sized zeros) here)
      (λ i lt. valid.combination.agrees i (λ one other in_one in_other. ap (λ v. get_or v i 0)
      (only_copy (sized zeros) one in_one ∙ sym (only_copy (sized zeros) other in_other))) (sized zeros) here) in
      sized_zeros_fail (subst PassesParity same valid.passes.1);
  unwoven = grind (arith, zeros_cut);
}

zeros_least : IsLeast (zeros ∷ []) 0 16 zeros
zeros_least = record {
  copy = zeros;
  there = (0, omega arith, refl);
  lies = refl;
  least = grind (arith, slice_cmp, nat_cmp, only_copy);
}

-- and the splice of zeros has no places: they are all a front that can't be divided
abbrev pub zeros_spliced : SplicedValue
zeros_spliced = record { places = []; front = 16; payload = zeros }

zeros_divided : IsDivisionOf (zeros ∷ []) zeros_spliced
zeros_divided = grind (arith, only_copy, All-nil, zeros_stop, zeros_least)

pub zeros_are_spliced : IsSpliceOf (zeros ∷ []) zeros_spliced
zeros_are_spliced = record {
  above = [];
  below = [];
  crossings = [];
  floor = 0;
  start = 0;
  end = 16;
  bound = 16;
  hole = zeros_spliced;
  one_length = λ copy there. ap length (only_copy zeros copy there);
  down = record { lie = refl; settled = All-nil (IsSettledDown (zeros ∷ []) zeros); stop = zeros_stop.unsettled };
  room = inl (λ piece h. zeros_cut h.copy piece.start 16 h.there (omega arith) h.cut h.content, refl);
  up = record {
    rise = refl;
    settled = All-nil (IsSettledUp (zeros ∷ []) 16 zeros);
    stop = λ piece first only.
        zeros_cut only.there.copy 0 piece.end only.there.there first.there.within only.there.cut only.there.content;
  };
  across = grind (arith, zeros_cut);
  divided = zeros_divided;
  bytes = refl;
  places = refl;
  front = refl;
}

-- ---- a first slice whose size field is lost in each copy

-- the first slice, with another first byte and another size
abbrev pub slice_with : (first high middle low : ℕ) → List ℕ
slice_with first high middle low = first ∷ 0xF6 ∷ 0x80 ∷ high ∷ middle ∷ low ∷ 0 ∷ 0x1C ∷ 0x3E ∷ 0xA0 ∷ 0x9B ∷ []

-- the size field that is lost in one copy gives more than there is, and in the other no content
abbrev pub lost_copies : List (List ℕ)
lost_copies = slice_with 0xFD 0xFF 0xFF 0xFF ∷ slice_with 0xFD 0 0 0 ∷ []

both_sized : map sized (versions_at lost_copies 0 11) ≡ vectors.first_slice ∷ vectors.first_slice ∷ []
both_sized = refl

lost_cut : (copy : List ℕ) (start : ℕ) → Contains lost_copies copy → FooterGives copy start 11 → HasContent start 11 → ⊥
lost_cut copy start there cut content = grind (arith, cut)

-- ---- a slice that both copies have

abbrev pub first_of : {X : Type 0} → (xs : List X) → 0 < length xs → X
first_of [] some = absurd (omega arith)
first_of (x ∷ xs) some = x

-- the finest split is tried, where it has few enough combinations
pub tried_first : (versions : List (List ℕ)) (count : ℕ) → HasFew versions (first_of splits (omega arith)) count
    → IsTriedBy versions (first_of splits (omega arith)) count
tried_first versions count few = record { place = 0; there = omega arith; is = refl; finer = λ k lt. absurd (omega arith); few = few }

module _ (slice : List ℕ) where
  twice : (copy : List ℕ) → Contains (slice ∷ slice ∷ []) copy → copy ≡ slice
  twice copy there = grind arith

  pub twice_one : (split : _) (bytes : List ℕ) → IsCombinationBy split (slice ∷ slice ∷ []) bytes → bytes ≡ slice
  twice_one split bytes is =
      let here : Contains (slice ∷ slice ∷ []) slice = (0, omega arith, refl) in
      cc (ext_get_or 0 bytes slice (is.same_length slice here) (λ i lt. is.agrees i (λ one other in_one in_other. ap (λ v. get_or v i 0) (twice one in_one ∙ sym (twice other in_other))) slice here))

  twice_combination : IsCombinationBy (first_of splits (omega arith)) (slice ∷ slice ∷ []) slice
  twice_combination = grind (arith, twice)

  twice_tried : IsTriedBy (slice ∷ slice ∷ []) (first_of splits (omega arith)) 1
  twice_tried = tried_first (slice ∷ slice ∷ []) 1 (record {
    numbered = record {
      at = λ k. slice;
      are = λ k lt. twice_combination;
      all = λ bytes is. (0, omega arith, sym (twice_one _ bytes is));
      once = λ j k low lt same. omega arith;
    };
    few = omega arith;
  })

  pub twice_few : AreFew (slice ∷ slice ∷ []) 1
  twice_few = record { split = first_of splits (omega arith); tried = twice_tried }

-- so the first slice is, once both copies have its size
pub first_slice_passes : PassesParity vectors.first_slice
unfolding number_bits bits_of polynomial_of divided remainder_of
first_slice_passes = (omega arith, refl)

-- so the slice is woven from the front, of one combination
pub lost_stands : StandsAs lost_copies 0 11 vectors.first_slice (Woven 1)
lost_stands = inr (inl (
  refl,
  record {
    none = λ piece h. lost_cut h.copy piece.start h.there h.cut h.content;
    no_claim = λ start h. lost_cut h.copy start h.there h.cut h.content;
    content = omega arith;
    short = omega arith;
    weave' = (
      record {
        there = record {
          split = first_of splits (omega arith);
          count = 1;
          tried = twice_tried vectors.first_slice;
          combination = twice_combination vectors.first_slice;
          passes = (record { footer = omega arith; size = refl }, first_slice_passes);
        };
        others = λ other valid. twice_one vectors.first_slice valid.split other valid.combination;
      },
      twice_few vectors.first_slice,
    );
  },
))

-- ---- places in words

voted_words : (standing_word (Voted 4096) ≡ codes "voted 4096")
    × (place_words (record { start = 1833; end = 3698; standing = Voted 12 }) ≡ codes "1833..3698 voted 12")
unfolding digits
voted_words = (refl, refl)

repaired_words : (standing_word (Repaired 1048576) ≡ codes "repaired 1048576")
    × (place_words (record { start = 3698; end = 4515; standing = Repaired 6536 }) ≡ codes "3698..4515 repaired 6536")
unfolding digits
repaired_words = (refl, refl)
