-- The pieces and claimed starts of copies, when each is cut to the bytes between two places. In the cut copies places count from the first
-- of the two.
use Rattle.ffv1_splice.proofs.Common.{◌≡◌, ℕ, ◌+◌, ◌-◌, ◌≤◌, List, take, drop, sym, ap, ◌∙◌, subst, arith, inl, inr, slice_range, fun_ext, cases_lt, drop-drop, drop-take, take-take, map-map, size_before, FooterGives, LinkValue, HasContent, IsPiece, IsClaimedStart, versions_at}
use Rattle.ffv1_splice.proofs.Versions.{version_there, version_of}

module _ (from to : ℕ) where
  -- ---- one copy

  pub range_of_range : (copy : List ℕ) (start end : ℕ) → from + end ≤ to
      → slice_range (slice_range copy from to) start end ≡ slice_range copy (from + start) (from + end)
  range_of_range copy start end within =
      let same : end - start ≡ from + end - (from + start) = omega arith in
      elim (cases_lt end start) [
        | inl none ↦
            let nothing : end - start ≡ 0 = omega arith in
            ap (λ n. take n (drop start (slice_range copy from to))) nothing
            ∙ sym (ap (λ n. take n (drop (from + start) copy)) (sym same ∙ nothing))
        | inr order ↦
            let all : to - from ≡ start + (to - from - start) = omega arith in
            ap (λ n. take (end - start) (drop start (take n (drop from copy)))) all
            ∙ ap (take (end - start)) (drop-take start (to - from - start) (drop from copy))
            ∙ take-take (end - start) (to - from - start) (drop start (drop from copy)) (omega arith)
            ∙ ap (take (end - start)) (drop-drop start from copy)
            ∙ ap (λ n. take n (drop (from + start) copy)) same
      ]

  pub narrowed_size : (copy : List ℕ) (end : ℕ) → 8 ≤ end → from + end ≤ to → size_before (slice_range copy from to) end ≡ size_before copy (from + end)
  narrowed_size copy end footer within = grind (arith, range_of_range)

  pub cut_out : (copy : List ℕ) (start end : ℕ) → from + end ≤ to → FooterGives (slice_range copy from to) start end → FooterGives copy (from + start) (from + end)
  cut_out copy start end within cut = let size = narrowed_size copy end (omega arith) within in omega arith

  pub cut_in : (copy : List ℕ) (start end : ℕ) → from + end ≤ to → FooterGives copy (from + start) (from + end) → FooterGives (slice_range copy from to) start end
  cut_in copy start end within cut = let size = narrowed_size copy end (omega arith) within in omega arith

  -- ---- all copies

  module _ (copies : List (List ℕ)) where
    pub versions_of_versions : (start end : ℕ) → from + end ≤ to
        → versions_at (versions_at copies from to) start end ≡ versions_at copies (from + start) (from + end)
    versions_of_versions start end within =
        cc (map-map (λ copy. slice_range copy start end) (λ copy. slice_range copy from to) copies, fun_ext (λ copy. range_of_range copy start end within))

    pub piece_out : (end : ℕ) (piece : LinkValue) → from + end ≤ to → IsPiece (versions_at copies from to) end piece
        → IsPiece copies (from + end) (record { start = from + piece.start; bytes = piece.bytes })
    piece_out end piece within h =
        let of = version_of copies from to h.copy h.there in
        let content : HasContent piece.start end = h.content in
        grind (arith, cut_out, range_of_range)

    pub piece_in : (end : ℕ) (piece : LinkValue) → from + end ≤ to → IsPiece copies (from + end) (record { start = from + piece.start; bytes = piece.bytes })
        → IsPiece (versions_at copies from to) end piece
    piece_in end piece within h =
        let content : HasContent (from + piece.start) (from + end) = h.content in
        record {
          copy = slice_range h.copy from to;
          there = version_there copies from to h.copy h.there;
          cut = cut_in h.copy piece.start end within h.cut;
          content = omega arith;
          bytes = h.bytes ∙ sym (range_of_range h.copy piece.start end within);
          passes = h.passes;
        }

    pub claim_in : (end start : ℕ) → from + end ≤ to → IsClaimedStart copies (from + end) (from + start) → IsClaimedStart (versions_at copies from to) end start
    claim_in end start within h =
        let content : HasContent (from + start) (from + end) = h.content in
        record {
          copy = slice_range h.copy from to;
          there = version_there copies from to h.copy h.there;
          cut = cut_in h.copy start end within h.cut;
          content = omega arith;
        }

    pub claim_out : (end start : ℕ) → from + end ≤ to → IsClaimedStart (versions_at copies from to) end start → IsClaimedStart copies (from + end) (from + start)
    claim_out end start within h =
        let of = version_of copies from to h.copy h.there in
        let content : HasContent start end = h.content in
        record {
          copy = of.0;
          there = of.1;
          cut = cut_out of.0 start end within (subst (λ copy. FooterGives copy start end) of.2 h.cut);
          content = omega arith;
        }
