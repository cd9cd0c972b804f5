-- What is spliced from copies, as the small definitions have it, is the original.
use Rattle.ffv1_splice.proofs.Common.{◌≡◌, ℕ, ◌+◌, ◌<◌, ◌≤◌, List, [], ◌∷◌, ◌++◌, length, map, refl, sym, ap, ◌∙◌, subst, arith, inl, inr, Contains, append_assoc, IsOfTwo, IsAmongTried, versions_at, sized}
use Rattle.std.specs.Prelude.{◌⊎◌}
use Rattle.std.specs.List.{flat_map}
use Rattle.ffv1_slice.proofs.Links.{Contains-head}
use Rattle.ffv1_splice.specs.Small.{PassesAsSlice, StandEach, IsJoinedOf, IsPieceAt, IsOnlyUpTo, IsSettledAt, IsClaimedAbove, IsTried, IsTriedUpTo, IsWovenAt, IsWovenUpward, IsSplicedFrom, IsUncontradicted, IsWithinReach, SplicedIsTheOriginal, SettledIsSpliced}
use Rattle.ffv1_splice.specs.Small.IsTriedUpTo.{alone, several, unclaimed}
use Rattle.ffv1_splice.proofs.StandingSlices.{AreLastOf, AreFirstOf, stand_below, none_between, last_of, same_down, same_up}

-- ---- what passes has content

pub passing_long : (slice : List ℕ) → PassesAsSlice slice → 0 < length slice
passing_long slice passes = let content : 8 < length slice = passes.0.content in omega arith

-- ---- claims

pub raised : (copies : List (List ℕ)) (floor end start : ℕ) → IsClaimedAbove copies 0 end start → floor ≤ start → IsClaimedAbove copies floor end start
raised copies floor end start claim above = record { version = claim.version; there = claim.there; footer = claim.footer; above = above }

pub unraised : (copies : List (List ℕ)) (floor end start : ℕ) → IsClaimedAbove copies floor end start → IsClaimedAbove copies 0 end start
unraised copies floor end start claim = record { version = claim.version; there = claim.there; footer = claim.footer; above = omega arith }

pub two_unraised : (copies : List (List ℕ)) (floor end : ℕ) → IsOfTwo (IsClaimedAbove copies floor end) → IsOfTwo (IsClaimedAbove copies 0 end)
two_unraised copies floor end two = record {
  one = two.one;
  other = two.other;
  one_there = unraised copies floor end two.one two.one_there;
  other_there = unraised copies floor end two.other two.other_there;
  differ = two.differ;
}

-- what is among the combinations that are tried is tried, if anything is
pub among_tried : (versions : List (List ℕ)) (slice bytes : List ℕ) → IsAmongTried versions slice → IsTried versions bytes → IsTried versions slice
among_tried versions slice bytes among tried = (tried.0, tried.1, tried.2, among tried.0 tried.1 tried.2)

-- ---- a slice of the original that is within reach

abbrev IsOwn : List (List ℕ) → ℕ → List ℕ → Type 0
IsOwn copies start slice = IsUncontradicted copies start slice × IsWithinReach copies start slice

module _ (copies : List (List ℕ)) (at : ℕ) (own : List ℕ) (is : IsOwn copies at own) where
  own_long : 0 < length own
  own_long = passing_long own is.0.passes

  module _ (floor end : ℕ) (above : floor ≤ at) (ends : at + length own ≡ end) where
    own_claim : IsClaimedAbove copies floor end at
    own_claim = raised copies floor end at (subst (λ e. IsClaimedAbove copies 0 e at) ends is.1.claimed) above

    -- where something is tried from its start, it is tried itself
    own_tried : (bytes : List ℕ) → IsTriedUpTo copies floor end at bytes → IsTriedUpTo copies floor end at own
    own_tried bytes (alone only tried) =
        alone only (among_tried (versions_at copies at end) own bytes (subst (λ e. IsAmongTried (versions_at copies at e) own) ends is.1.among) tried)
    own_tried bytes (several two claim tried) =
        let two_there : IsOfTwo (IsClaimedAbove copies 0 (at + length own)) =
        subst (λ e. IsOfTwo (IsClaimedAbove copies 0 e)) (sym ends) (two_unraised copies floor end two) in
        several two claim (among_tried (map sized (versions_at copies at end)) own bytes
        (subst (λ e. IsAmongTried (map sized (versions_at copies at e)) own) ends (is.1.several two_there)) tried)
    own_tried bytes (unclaimed none begins tried) = absurd (none at own_claim)

  -- what is woven up to where it ends is it
  woven_own : (floor start : ℕ) (slice : List ℕ) → floor ≤ at → at + length own ≡ start + length slice → IsWovenAt copies floor start slice → slice ≡ own
  woven_own floor start slice above ends woven =
      let some = woven.each at (own_claim floor (start + length slice) above ends) in
      sym (woven.only at own (own_tried floor (start + length slice) above ends some.0 some.1) is.0.passes)

-- ---- what is spliced

-- copies of which there are some have one length
one_length : (copies : List (List ℕ)) (a b : ℕ) → (copies ≡ [] → ⊥) → ((copy : List ℕ) → Contains copies copy → length copy ≡ a)
    → ((copy : List ℕ) → Contains copies copy → length copy ≡ b) → a ≡ b
one_length [] a b some are also = absurd (some refl)
one_length (copy ∷ copies) a b some are also = sym (are copy (Contains-head copy copies)) ∙ also copy (Contains-head copy copies)

module _ (copies : List (List ℕ)) (original payload : List ℕ) (own : IsJoinedOf (IsOwn copies) copies original) (is : IsSplicedFrom copies payload) where
  long : length original ≡ length payload
  long = one_length copies (length original) (length payload) is.some own.one_length is.one_length

  abbrev Lower : ℕ → List ℕ → Type 0
  Lower start slice = IsPieceAt copies start slice ⊎ IsWovenUpward copies is.bound start slice

  abbrev Between : ℕ → List ℕ → Type 0
  Between start slice = IsPieceAt copies start slice ⊎ IsWovenAt copies is.floor start slice

  long_lower : (start : ℕ) (slice : List ℕ) → Lower start slice → 0 < length slice
  long_lower start slice (inl piece) = passing_long slice piece.passes
  long_lower start slice (inr upward) = passing_long slice upward.woven.passes

  long_between : (start : ℕ) (slice : List ℕ) → Between start slice → 0 < length slice
  long_between start slice (inl piece) = passing_long slice piece.passes
  long_between start slice (inr woven) = passing_long slice woven.passes

  long_piece : (start : ℕ) (slice : List ℕ) → IsPieceAt copies start slice → 0 < length slice
  long_piece start slice piece = passing_long slice piece.passes

  piece_own : (at : ℕ) (one : List ℕ) (start : ℕ) (slice : List ℕ) → IsOwn copies at one → at + length one ≡ start + length slice
      → IsPieceAt copies start slice → slice ≡ one
  piece_own at one start slice is_own ends piece = is_own.0.ends start slice piece (sym ends)

  -- the slices above the top are the last of the original's, ..
  upper_is : AreLastOf (IsOwn copies) 0 own.slices is.upper is.top
  upper_is =
      same_down (IsOwn copies) (IsPieceAt copies) (own_long copies) long_piece 0
      (λ at one start slice is_own low ends piece. piece_own at one start slice is_own ends piece) own.slices (length payload)
      (subst (StandEach (IsOwn copies) 0 own.slices) long own.each) is.top is.upper (omega arith) is.above

  -- .. so pieces that differ don't end at the top, ..
  one_at_top : 0 < is.top → ((slice : List ℕ) → IsOnlyUpTo copies is.top slice → ⊥) → ⊥
  one_at_top after none =
      let of = last_of (IsOwn copies) (own_long copies) 0 upper_is.rest is.top upper_is.each after in
      none of.slice (subst (λ e. IsOnlyUpTo copies e of.slice) of.ends of.last.0.ends)

  lower_own : (start : ℕ) (one slice : List ℕ) → IsOwn copies start one → start + length one ≤ is.top → Lower start slice → slice ≡ one
  lower_own start one slice is_own within (inl piece) = is_own.0.begins slice piece
  lower_own start one slice is_own within (inr upward) =
      let some = own_long copies start one is_own in
      let room : start + length one ≤ is.bound = elim is.room [
        | inl same ↦ omega (arith, same)
        | inr none ↦ absurd (one_at_top (omega arith) none)
      ] in
      let claim = own_claim copies start one is_own start (start + length one) (omega arith) refl in
      woven_own copies start one is_own start start slice (omega arith) (upward.end (start + length one) room claim) upward.woven

  -- .. those below the floor are its first, ..
  lower_is : AreFirstOf (IsOwn copies) is.top upper_is.rest is.lower is.floor
  lower_is =
      same_up (IsOwn copies) Lower (own_long copies) long_lower is.top lower_own 0 upper_is.rest upper_is.each is.lower is.floor
      (stand_below Between long_between is.floor is.hole is.top is.between) is.below

  between_own : (at : ℕ) (one : List ℕ) (start : ℕ) (slice : List ℕ) → IsOwn copies at one → is.floor ≤ at → at + length one ≡ start + length slice
      → Between start slice → slice ≡ one
  between_own at one start slice is_own low ends (inl piece) = piece_own at one start slice is_own ends piece
  between_own at one start slice is_own low ends (inr woven) = woven_own copies at one is_own is.floor start slice low ends woven

  -- .. and those between are the others
  hole_is : AreLastOf (IsOwn copies) is.floor lower_is.rest is.hole is.floor
  hole_is =
      same_down (IsOwn copies) Between (own_long copies) long_between is.floor between_own lower_is.rest is.top lower_is.each is.floor is.hole
      (omega arith) is.between

  slices_are : own.slices ≡ is.lower ++ (is.hole ++ is.upper)
  slices_are =
      let none = none_between (IsOwn copies) (own_long copies) is.floor hole_is.rest hole_is.each in
      let hole : lower_is.rest ≡ is.hole = hole_is.is ∙ ap (λ z. z ++ is.hole) none in
      upper_is.is ∙ ap (λ z. z ++ is.upper) (lower_is.is ∙ ap (λ z. is.lower ++ z) hole) ∙ append_assoc is.lower is.hole is.upper

  pub payload_is : payload ≡ original
  payload_is = is.joined ∙ ap (flat_map (λ (slice : List ℕ). slice)) (sym slices_are) ∙ sym own.joined

pub spliced_is_the_original : SplicedIsTheOriginal
spliced_is_the_original copies original payload own is = payload_is copies original payload own is

-- ---- what is settled is spliced

settled_pieces : (copies : List (List ℕ)) (start : ℕ) (slices : List (List ℕ)) (top : ℕ) → StandEach (IsSettledAt copies) start slices top
    → StandEach (IsPieceAt copies) start slices top
settled_pieces copies start [] top each = each
settled_pieces copies start (slice ∷ slices) top each = (each.0.piece, settled_pieces copies (start + length slice) slices top each.1)

pub settled_is_spliced : SettledIsSpliced
settled_is_spliced copies original some is = record {
  lower = [];
  hole = [];
  upper = is.slices;
  floor = 0;
  top = 0;
  bound = 0;
  some = some;
  one_length = is.one_length;
  joined = is.joined;
  room = inl refl;
  below = refl;
  between = refl;
  above = settled_pieces copies 0 is.slices (length original) is.each;
}
