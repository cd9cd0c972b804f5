-- Of near copies the pieces and claims at the end of an original's slice are its own.
use Rattle.ffv1_splice.proofs.Common.{◌≡◌, ℕ, ◌+◌, ◌-◌, ◌<◌, ◌≤◌, List, [], ◌∷◌, length, drop, min, refl, sym, ap, ◌∙◌, subst, arith, inl, inr, Contains, slice_range, length-take, length-drop, burst, AreBytes, PassesParity, size_before, IsFramed, size_of_range, same_size_field, IsDamagedWithin32}
use Rattle.std.specs.Prelude.{◌⊎◌}
use Rattle.ffv1_slice.proofs.Links.{Contains-head}
use Rattle.ffv1_splice.specs.Small.{StandEach, IsJoinedOf, IsPieceAt, IsSettledAt, IsClaimedAbove, IsUncontradicted, IsOnlyFrom, IsAmongVersions, IsWithinReach, IsNearAt, SplicedOfNearIsTheOriginal, NearCopiesSettle}
use Rattle.ffv1_splice.proofs.Versions.{version_there, version_of}
use Rattle.ffv1_splice.proofs.SmallSplices.{spliced_is_the_original}

-- ---- what is so of each slice

stand_weaker : (P Q : ℕ → List ℕ → Type 0) → ((start : ℕ) (slice : List ℕ) → P start slice → Q start slice) → (start : ℕ) (slices : List (List ℕ)) (top : ℕ)
    → StandEach P start slices top → StandEach Q start slices top
stand_weaker P Q weaker start [] top each = each
stand_weaker P Q weaker start (slice ∷ slices) top each =
    (weaker start slice each.0, stand_weaker P Q weaker (start + length slice) slices top each.1)

pub joined_weaker : (P Q : ℕ → List ℕ → Type 0) → ((start : ℕ) (slice : List ℕ) → P start slice → Q start slice) → (copies : List (List ℕ)) (payload : List ℕ)
    → IsJoinedOf P copies payload → IsJoinedOf Q copies payload
joined_weaker P Q weaker copies payload is = record {
  slices = is.slices;
  joined = is.joined;
  each = stand_weaker P Q weaker 0 is.slices (length payload) is.each;
  one_length = is.one_length;
}

-- ---- what a copy has where a footer ends

pub length_there : (copy : List ℕ) (start end : ℕ) → length (slice_range copy start end) ≡ min (end - start) (length copy - start)
length_there copy start end = length-take (end - start) (drop start copy) ∙ ap (min (end - start)) (length-drop start copy)

-- a slice by its footer gives its size there
pub size_there : (copy : List ℕ) (start end : ℕ) → end ≤ length copy → IsFramed (slice_range copy start end) → 8 < length (slice_range copy start end)
    → start + (size_before copy end + 8) ≡ end
size_there copy start end within framed content =
    let long = length_there copy start end in
    let footer : 8 ≤ length (slice_range copy start end) = framed.footer in
    let size = framed.size in
    let same = size_of_range copy start end (omega arith) within in
    omega arith

-- ---- a slice of which copies are near

module _ (copies : List (List ℕ)) (at : ℕ) (own : List ℕ) (near : IsNearAt copies at own) where
  content : 8 < length own
  content = near.passes.0.content

  module _ (copy : List ℕ) (there : Contains copies copy) where
    abbrev version : List ℕ
    version = slice_range copy at (at + length own)

    version_near : AreBytes version × ((version ≡ own) ⊎ IsDamagedWithin32 own version)
    version_near = near.near version (version_there copies at (at + length own) copy there)

    version_long : length version ≡ length own
    version_long = elim version_near.1 [
      | inl same ↦ ap length same
      | inr damaged ↦ sym damaged.differ.same_length
    ]

    reaches : at + length own ≤ length copy
    reaches = let long = length_there copy at (at + length own) in let same = version_long in let some = content in omega arith

    version_size : size_before version (length version) ≡ length own - 8
    version_size = elim version_near.1 [
      | inl same ↦ ap (λ z. size_before z (length z)) same ∙ near.passes.0.framed.size
      | inr damaged ↦
          same_size_field own version near.passes.0.framed.footer (omega (arith, version_long, content)) damaged.size ∙ near.passes.0.framed.size
    ]

    version_framed : IsFramed version
    version_framed = record { footer = omega (arith, version_long, content); size = version_size ∙ ap (λ n. n - 8) (sym version_long) }

    -- so a footer that ends there begins where the slice does
    one_start : (start : ℕ) → start + (size_before copy (at + length own) + 8) ≡ at + length own → start ≡ at
    one_start start ends =
        let mine = size_there copy at (at + length own) reaches version_framed (omega (arith, version_long, content)) in omega arith

    -- what passes there is the slice
    version_own : PassesParity version → version ≡ own
    version_own passes = elim version_near.1 [
      | inl same ↦ same
      | inr damaged ↦ sym (burst own version damaged.at near.bytes version_near.0 damaged.differ near.passes.1 passes)
    ]

  -- ---- pieces and claims

  near_piece : (start : ℕ) (piece : List ℕ) → IsPieceAt copies start piece → start + length piece ≡ at + length own → piece ≡ own
  near_piece start piece is ends =
      let of = version_of copies start (start + length piece) piece is.there in
      let there : piece ≡ slice_range of.0 start (at + length own) = of.2 ∙ ap (slice_range of.0 start) ends in
      let framed : IsFramed (slice_range of.0 start (at + length own)) = subst IsFramed there is.passes.0.framed in
      let long : 8 < length (slice_range of.0 start (at + length own)) = subst (λ (z : List ℕ). 8 < length z) there is.passes.0.content in
      let same : start ≡ at =
      one_start of.0 of.1 start (size_there of.0 start (at + length own) (reaches of.0 of.1) framed long) in
      let mine : piece ≡ slice_range of.0 at (at + length own) = there ∙ ap (λ s. slice_range of.0 s (at + length own)) same in
      mine ∙ version_own of.0 of.1 (subst PassesParity mine is.passes.1)

  near_claim : (floor start : ℕ) → IsClaimedAbove copies floor (at + length own) start → start ≡ at
  near_claim floor start claim =
      let of = version_of copies start (at + length own) claim.version claim.there in
      let framed : IsFramed (slice_range of.0 start (at + length own)) = subst IsFramed of.2 claim.footer.framed in
      let long : 8 < length (slice_range of.0 start (at + length own)) = subst (λ (z : List ℕ). 8 < length z) of.2 claim.footer.content in
      one_start of.0 of.1 start (size_there of.0 start (at + length own) (reaches of.0 of.1) framed long)

  claimed_by : (copy : List ℕ) → Contains copies copy → IsClaimedAbove copies 0 (at + length own) at
  claimed_by copy there = record {
    version = slice_range copy at (at + length own);
    there = version_there copies at (at + length own) copy there;
    footer = record { framed = version_framed copy there; content = omega (arith, version_long copy there, content) };
    above = omega arith;
  }

  settled_near : IsPieceAt copies at own → IsSettledAt copies at own
  settled_near piece = record { piece = piece; only = near_piece }

  uncontradicted : IsOnlyFrom copies at own → IsUncontradicted copies at own
  uncontradicted begins = record { passes = near.passes; begins = begins; ends = near_piece }

  within_reach : (copy : List ℕ) → Contains copies copy → IsAmongVersions copies at own → IsWithinReach copies at own
  within_reach copy there among = record {
    claimed = claimed_by copy there;
    among = among;
    several = λ two. absurd (two.differ (near_claim 0 two.one two.one_there ∙ sym (near_claim 0 two.other two.other_there)));
  }

pub near_copies_settle : NearCopiesSettle
near_copies_settle copies original is =
    joined_weaker (λ start slice. IsNearAt copies start slice × IsPieceAt copies start slice) (IsSettledAt copies)
    (λ start slice near. settled_near copies start slice near.0 near.1) copies original is

-- one copy is at hand
some_copy : (copies : List (List ℕ)) → (copies ≡ [] → ⊥) → (copy : List ℕ) × Contains copies copy
some_copy [] some = absurd (some refl)
some_copy (copy ∷ copies) some = (copy, Contains-head copy copies)

pub spliced_of_near_is_the_original : SplicedOfNearIsTheOriginal
spliced_of_near_is_the_original copies original payload near is =
    let copy = some_copy copies is.some in
    spliced_is_the_original copies original payload
    (joined_weaker (λ start slice. IsNearAt copies start slice × IsOnlyFrom copies start slice × IsAmongVersions copies start slice)
    (λ start slice. IsUncontradicted copies start slice × IsWithinReach copies start slice)
    (λ start slice one. (uncontradicted copies start slice one.0 one.1, within_reach copies start slice one.0 copy.0 copy.1 one.2)) copies original near)
    is
