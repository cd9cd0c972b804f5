-- Pieces and claimed starts, as the small definitions have them and as the splice's have.
use Rattle.ffv1_splice.proofs.Common.{◌≡◌, ℕ, ◌+◌, ◌-◌, ◌<◌, ◌≤◌, List, length, sym, ap, ◌∙◌, subst, arith, Contains, slice_range, FooterGives, LinkValue, length-range, size_of_range, AllReach, HasContent, IsPiece, IsClaimedStart, versions_at}
use Rattle.ffv1_splice.specs.Small.{HasSliceFooter, IsPieceAt, IsClaimedAbove}
use Rattle.ffv1_splice.proofs.Versions.{version_there, version_of}
use Rattle.ffv1_splice.proofs.SmallNear.{length_there, size_there}

module _ (copies : List (List ℕ)) (end : ℕ) (reach : AllReach copies end) where
  -- what a footer of a copy gives has it
  footed : (copy : List ℕ) → Contains copies copy → (start : ℕ) → FooterGives copy start end → HasContent start end
      → HasSliceFooter (slice_range copy start end)
  footed copy there start cut content =
      let within = reach copy there in
      let long = length-range copy start end (omega arith) within in
      let size = size_of_range copy start end (omega arith) within in
      record { framed = record { footer = omega arith; size = omega arith }; content = omega arith }

  -- and what has it is given by a footer
  given : (copy : List ℕ) → Contains copies copy → (start : ℕ) → HasSliceFooter (slice_range copy start end)
      → FooterGives copy start end × HasContent start end
  given copy there start footer =
      let within = reach copy there in
      let long = length_there copy start end in
      let content : 8 < length (slice_range copy start end) = footer.content in
      let size = size_there copy start end within footer.framed content in (omega arith, omega arith)

  -- ---- pieces

  pub piece_ends : (piece : LinkValue) → IsPiece copies end piece → piece.start + length piece.bytes ≡ end
  piece_ends piece is =
      let within = reach is.copy is.there in
      let content : HasContent piece.start end = is.content in
      let long = length-range is.copy piece.start end (omega arith) within in
      let same = ap length is.bytes in
      omega arith

  pub piece_to : (piece : LinkValue) → IsPiece copies end piece → IsPieceAt copies piece.start piece.bytes
  piece_to piece is =
      let footer = footed is.copy is.there piece.start is.cut is.content in
      record {
        there = subst (λ e. Contains (versions_at copies piece.start e) piece.bytes) (sym (piece_ends piece is))
            (subst (Contains (versions_at copies piece.start end)) (sym is.bytes) (version_there copies piece.start end is.copy is.there));
        passes = (subst HasSliceFooter (sym is.bytes) footer, is.passes);
      }

  pub piece_from : (start : ℕ) (bytes : List ℕ) → start + length bytes ≡ end → IsPieceAt copies start bytes
      → IsPiece copies end (record { start = start; bytes = bytes })
  piece_from start bytes ends is =
      let of = version_of copies start (start + length bytes) bytes is.there in
      let there : bytes ≡ slice_range of.0 start end = of.2 ∙ ap (slice_range of.0 start) ends in
      let cut = given of.0 of.1 start (subst HasSliceFooter there is.passes.0) in
      record { copy = of.0; there = of.1; cut = cut.0; content = cut.1; bytes = there; passes = is.passes.1 }

  -- ---- claims

  pub claim_to : (floor start : ℕ) → floor ≤ start → IsClaimedStart copies end start → IsClaimedAbove copies floor end start
  claim_to floor start above claim = record {
    version = slice_range claim.copy start end;
    there = version_there copies start end claim.copy claim.there;
    footer = footed claim.copy claim.there start claim.cut claim.content;
    above = above;
  }

  pub claim_from : (floor start : ℕ) → IsClaimedAbove copies floor end start → IsClaimedStart copies end start
  claim_from floor start claim =
      let of = version_of copies start end claim.version claim.there in
      let cut = given of.0 of.1 start (subst HasSliceFooter of.2 claim.footer) in
      record { copy = of.0; there = of.1; cut = cut.0; content = cut.1 }
