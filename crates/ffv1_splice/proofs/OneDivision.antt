-- Copies have one division, and it rests on the set of the copies alone.
use Rattle.ffv1_splice.proofs.Common.{◌≡◌, ℕ, List, [], ◌∷◌, ◌++◌, length, map, sym, ap, ◌∙◌, subst, inl, inr, arith, ◌⊎◌, LinkValue, IsOnly, IsOfTwo, IsOfNone, IsPiece, IsClaimedStart, IsLeast, versions_at, sized, IsWeaveAt, IsWeaveFromFront, IsUnwovenAt, IsVoteAt, IsUnvotedAt, IsRepairAt, IsMissingAt, StandsAs, IsGap, IsStop, Weave, IsWeaveOf, woven, disputed, missing, too_many, IsRepairOf, IsVoteOf, Slice, same_versions_weave, same_versions_repair, same_versions_vote, SplicedValue, IsDivisionOf, HasSameMembers, Standing, Settled, Woven, Voted, Repaired, Disputed, Missing, Undivided, Place, same_back, weave_as}
use Rattle.ffv1_splice.proofs.LeastSteps.{same_if_neither_below}
use Rattle.ffv1_splice.proofs.PlaceSteps.{two_not_only, two_not_none, unwoven_weave, missing_unwoven}
use Rattle.ffv1_splice.proofs.Versions.{same_versions}
use Rattle.ffv1_splice.proofs.FirstSlices.{same_sized}
use Rattle.ffv1_splice.proofs.SeveralSteps.{one_start, one_several, several_as}
use Rattle.ffv1_splice.proofs.Walks.{IsSpliceBefore, division_of, division_walk}
use Rattle.ffv1_splice.proofs.Walks.IsSpliceBefore.{stops, goes}

-- ---- one place ends there

-- how a place stands, as one value
pub record StandingValue : Type 0 where
  pub start : ℕ
  pub bytes : List ℕ
  pub standing : Standing

module _ (copies : List (List ℕ)) (end : ℕ) where
  least_same : (start : ℕ) (a b : List ℕ) → IsLeast copies start end a → IsLeast copies start end b → a ≡ b
  least_same start a b h k = grind (arith, same_if_neither_below)

  one_gap : (standing : Standing) (s t : ℕ) (a b : List ℕ) → IsGap copies s end a → IsGap copies t end b
      → ◌≡◌ {A = StandingValue} (record { start = s; bytes = a; standing = standing }) (record { start = t; bytes = b; standing = standing })
  one_gap standing s t a b h k =
      let starts : s ≡ t = k.claim.others s h.claim.there in
      let bytes : a ≡ b = least_same t a b (subst (λ n. IsLeast copies n end a) starts h.least) k.least in
      ap (λ n. record { start = n; bytes = a; standing = standing }) starts ∙ ap (λ z. record { start = t; bytes = z; standing = standing }) bytes

  -- what is woven there
  one_weave_at : (s t : ℕ) (v w : Weave) → IsWeaveAt copies s end v → IsWeaveAt copies t end w → v ≡ w
  one_weave_at s t v w h k =
      let starts : s ≡ t = k.claim.others s h.claim.there in
      cc (same_versions_weave Slice (versions_at copies t end) (versions_at copies t end) v w (λ version. ((λ there. there), λ there. there)) (subst (λ n. IsWeaveOf Slice (versions_at copies n end) v) starts h.weave') k.weave')

  -- what is made of as many that were tried
  same_made : (made : ℕ → Standing) (s t : ℕ) (a b : List ℕ) (m n : ℕ) → s ≡ t → a ≡ b → m ≡ n
      → ◌≡◌ {A = StandingValue} (record { start = s; bytes = a; standing = made m }) (record { start = t; bytes = b; standing = made n })
  same_made made s t a b m n starts bytes counts = grind arith

  same_woven : (s t : ℕ) (a b : List ℕ) (m n : ℕ) → s ≡ t → woven a m ≡ woven b n
      → ◌≡◌ {A = StandingValue} (record { start = s; bytes = a; standing = Woven m }) (record { start = t; bytes = b; standing = Woven n })
  same_woven s t a b m n starts same = grind (arith, same_made)

  one_woven : (s t : ℕ) (a b : List ℕ) (m n : ℕ) → StandsAs copies s end a (Woven m) → StandsAs copies t end b (Woven n)
      → ◌≡◌ {A = StandingValue} (record { start = s; bytes = a; standing = Woven m }) (record { start = t; bytes = b; standing = Woven n })
  one_woven s t a b m n (inl h) (inl k) =
      same_woven s t a b m n (k.claim.others s h.claim.there) (one_weave_at s t (woven a m) (woven b n) h k)
  one_woven s t a b m n (inl h) (inr (inl k)) = absurd (k.1.no_claim s h.claim.there)
  one_woven s t a b m n (inl h) (inr (inr k)) = absurd (two_not_only (IsClaimedStart copies end) k.several s h.claim)
  one_woven s t a b m n (inr (inl h)) (inl k) = absurd (h.1.no_claim t k.claim.there)
  one_woven s t a b m n (inr (inl h)) (inr (inr k)) = absurd (h.1.no_claim t k.claim)
  one_woven s t a b m n (inr (inr h)) (inl k) = absurd (two_not_only (IsClaimedStart copies end) h.several t k.claim)
  one_woven s t a b m n (inr (inr h)) (inr (inl k)) = absurd (k.1.no_claim s h.claim)
  one_woven s t a b m n (inr (inr h)) (inr (inr k)) =
      same_woven s t a b m n (one_start copies end s t a b m n h k) (one_several copies end s t a b m n h k)
  one_woven s t a b m n (inr (inl h)) (inr (inl k)) =
      let versions : List (List ℕ) = map sized (versions_at copies 0 end) in
      cc (same_woven s t a b m n (h.0 ∙ sym k.0) (same_versions_weave Slice versions versions (woven a m) (woven b n) (λ version. ((λ there. there), λ there. there)) h.1.weave' k.1.weave'))

  -- where something is woven no piece ends
  pub woven_unsettled : (s : ℕ) (a : List ℕ) (m : ℕ) → StandsAs copies s end a (Woven m) → IsOfNone (IsPiece copies end)
  woven_unsettled s a m (inl h) = h.none
  woven_unsettled s a m (inr (inl h)) = h.1.none
  woven_unsettled s a m (inr (inr h)) = h.none

  unwoven_unsettled : (s : ℕ) → IsUnwovenAt copies s end → IsOfNone (IsPiece copies end)
  unwoven_unsettled s h = (unwoven_weave copies s end h).1.none

  pub missing_unsettled : (s : ℕ) → IsMissingAt copies s end → IsOfNone (IsPiece copies end)
  missing_unsettled s h = unwoven_unsettled s (missing_unwoven copies s end h)

  -- where something is woven, there is no other weave
  not_woven_and : (s t : ℕ) (a : List ℕ) (m : ℕ) (w : Weave) → (woven a m ≡ w → ⊥) → StandsAs copies s end a (Woven m) → IsWeaveAt copies t end w → ⊥
  not_woven_and s t a m w apart (inl h) k = apart (one_weave_at s t (woven a m) w h k)
  not_woven_and s t a m w apart (inr (inl h)) k = h.1.no_claim t k.claim.there
  not_woven_and s t a m w apart (inr (inr h)) k = two_not_only (IsClaimedStart copies end) h.several t k.claim

  not_woven_and_repaired : (s t : ℕ) (a b : List ℕ) (m n : ℕ) → StandsAs copies s end a (Woven m) → IsRepairAt copies t end b n → ⊥
  not_woven_and_repaired s t a b m n h k = not_woven_and s t a m (missing k.combinations) (λ e. absurd (cc)) h k.missed

  not_woven_and_disputed : (s t : ℕ) (a b : List ℕ) (m : ℕ) → StandsAs copies s end a (Woven m) → StandsAs copies t end b Disputed → ⊥
  not_woven_and_disputed s t a b m h k = elim k.0 [
    | inl two ↦ two_not_none (IsPiece copies end) two (woven_unsettled s a m h)
    | inr w ↦ not_woven_and s t a m disputed (λ e. absurd (cc)) h w
  ]

  not_woven_and_unwoven : (s t : ℕ) (a : List ℕ) (m : ℕ) → StandsAs copies s end a (Woven m) → IsUnwovenAt copies t end → ⊥
  not_woven_and_unwoven s t a m h (inl w) = not_woven_and s t a m (missing w.0) (λ e. absurd (cc)) h w.1
  not_woven_and_unwoven s t a m h (inr w) = not_woven_and s t a m too_many (λ e. absurd (cc)) h w

  not_woven_and_missing : (s t : ℕ) (a : List ℕ) (m : ℕ) → StandsAs copies s end a (Woven m) → IsMissingAt copies t end → ⊥
  not_woven_and_missing s t a m h k = not_woven_and_unwoven s t a m h (missing_unwoven copies t end k)

  -- what is voted there, as of the one start that is claimed
  voted_claim : (s : ℕ) (a : List ℕ) (m : ℕ) → IsVoteAt copies s end a m → IsOnly (IsClaimedStart copies end) s
  voted_claim s a m h = (unwoven_weave copies s end h.unwoven).1.claim

  vote_from : (s t : ℕ) (a : List ℕ) (m : ℕ) → IsVoteAt copies s end a m → IsOnly (IsClaimedStart copies end) t → IsVoteOf (versions_at copies t end) a m
  vote_from s t a m h claim = subst (λ n. IsVoteOf (versions_at copies n end) a m) (claim.others s (voted_claim s a m h).there) h.vote

  one_voted : (s t : ℕ) (a b : List ℕ) (m n : ℕ) → IsVoteAt copies s end a m → IsVoteAt copies t end b n
      → ◌≡◌ {A = StandingValue} (record { start = s; bytes = a; standing = Voted m }) (record { start = t; bytes = b; standing = Voted n })
  one_voted s t a b m n h k =
      let same = same_versions_vote.one (versions_at copies t end) a b m n (vote_from s t a m h (voted_claim t b n k)) k.vote in
      same_made Voted s t a b m n ((voted_claim t b n k).others s (voted_claim s a m h).there) same.0 same.1

  not_voted_and_repaired : (s t : ℕ) (a b : List ℕ) (m n : ℕ) → IsVoteAt copies s end a m → IsRepairAt copies t end b n → ⊥
  not_voted_and_repaired s t a b m n h k = k.unvoted a m (vote_from s t a m h k.missed.claim)

  not_voted_and_missing : (s t : ℕ) (a : List ℕ) (m : ℕ) → IsVoteAt copies s end a m → IsMissingAt copies t end → ⊥
  not_voted_and_missing s t a m h k = k.1 a m (vote_from s t a m h (unwoven_weave copies t end (missing_unwoven copies t end k)).1.claim)

  -- what is repaired there, as of the one start that is claimed
  repair_from : (s t : ℕ) (a : List ℕ) (m : ℕ) → IsRepairAt copies s end a m → IsOnly (IsClaimedStart copies end) t → IsRepairOf (versions_at copies t end) a m
  repair_from s t a m h claim = subst (λ n. IsRepairOf (versions_at copies n end) a m) (claim.others s h.missed.claim.there) h.repair

  one_repaired : (s t : ℕ) (a b : List ℕ) (m n : ℕ) → IsRepairAt copies s end a m → IsRepairAt copies t end b n
      → ◌≡◌ {A = StandingValue} (record { start = s; bytes = a; standing = Repaired m }) (record { start = t; bytes = b; standing = Repaired n })
  one_repaired s t a b m n h k =
      let same = same_versions_repair.one (versions_at copies t end) a b m n (repair_from s t a m h k.missed.claim) k.repair in
      same_made Repaired s t a b m n (k.missed.claim.others s h.missed.claim.there) same.0 same.1

  not_repaired_and_disputed : (s t : ℕ) (a : List ℕ) (m : ℕ) → IsRepairAt copies s end a m
      → IsOfTwo (IsPiece copies end) ⊎ IsWeaveAt copies t end disputed → ⊥
  not_repaired_and_disputed s t a m h (inl two) = two_not_none (IsPiece copies end) two h.missed.none
  not_repaired_and_disputed s t a m h (inr w) = let e = one_weave_at s t (missing h.combinations) disputed h.missed w in absurd (cc)

  not_repaired_and_missing : (s t : ℕ) (a : List ℕ) (m : ℕ) → IsRepairAt copies s end a m → IsMissingAt copies t end → ⊥
  not_repaired_and_missing s t a m h (inl w, unvoted) = w.1 a m (repair_from s t a m h w.0.1.claim)
  not_repaired_and_missing s t a m h (inr w, unvoted) = let e = one_weave_at s t (missing h.combinations) too_many h.missed w in absurd (cc)

  not_disputed_and_unwoven : (s t : ℕ) → IsOfTwo (IsPiece copies end) ⊎ IsWeaveAt copies s end disputed → IsUnwovenAt copies t end → ⊥
  not_disputed_and_unwoven s t (inl two) k = two_not_none (IsPiece copies end) two (unwoven_unsettled t k)
  not_disputed_and_unwoven s t (inr h) (inl w) = let e = one_weave_at s t disputed (missing w.0) h w.1 in absurd (cc)
  not_disputed_and_unwoven s t (inr h) (inr w) = let e = one_weave_at s t disputed too_many h w in absurd (cc)

  not_disputed_and_missing : (s t : ℕ) → IsOfTwo (IsPiece copies end) ⊎ IsWeaveAt copies s end disputed → IsMissingAt copies t end → ⊥
  not_disputed_and_missing s t h k = not_disputed_and_unwoven s t h (missing_unwoven copies t end k)

  not_settled_and_disputed : (piece : LinkValue) (t : ℕ) → IsOnly (IsPiece copies end) piece → IsOfTwo (IsPiece copies end) ⊎ IsWeaveAt copies t end disputed → ⊥
  not_settled_and_disputed piece t h (inl two) = two_not_only (IsPiece copies end) two piece h
  not_settled_and_disputed piece t h (inr w) = w.none piece h.there

  pub one_standing : (s t : ℕ) (a b : List ℕ) (x y : Standing) → StandsAs copies s end a x → StandsAs copies t end b y
      → ◌≡◌ {A = StandingValue} (record { start = s; bytes = a; standing = x }) (record { start = t; bytes = b; standing = y })
  one_standing s t a b Settled Settled h k =
      ap (λ (p : LinkValue). record { start = p.start; bytes = p.bytes; standing = Settled }) (k.others (record { start = s; bytes = a }) h.there)
  one_standing s t a b Settled (Woven n) h k = absurd (woven_unsettled t b n k (record { start = s; bytes = a }) h.there)
  one_standing s t a b Settled (Voted n) h k = absurd (unwoven_unsettled t k.unwoven (record { start = s; bytes = a }) h.there)
  one_standing s t a b Settled (Repaired n) h k = absurd (k.missed.none (record { start = s; bytes = a }) h.there)
  one_standing s t a b Settled Disputed h k = absurd (not_settled_and_disputed (record { start = s; bytes = a }) t h k.0)
  one_standing s t a b Settled Missing h k = absurd (missing_unsettled t k.0 (record { start = s; bytes = a }) h.there)
  one_standing s t a b (Woven m) Settled h k = absurd (woven_unsettled s a m h (record { start = t; bytes = b }) k.there)
  one_standing s t a b (Woven m) (Woven n) h k = one_woven s t a b m n h k
  one_standing s t a b (Woven m) (Voted n) h k = absurd (not_woven_and_unwoven s t a m h k.unwoven)
  one_standing s t a b (Woven m) (Repaired n) h k = absurd (not_woven_and_repaired s t a b m n h k)
  one_standing s t a b (Woven m) Disputed h k = absurd (not_woven_and_disputed s t a b m h k)
  one_standing s t a b (Woven m) Missing h k = absurd (not_woven_and_missing s t a m h k.0)
  one_standing s t a b (Voted m) Settled h k = absurd (unwoven_unsettled s h.unwoven (record { start = t; bytes = b }) k.there)
  one_standing s t a b (Voted m) (Woven n) h k = absurd (not_woven_and_unwoven t s b n k h.unwoven)
  one_standing s t a b (Voted m) (Voted n) h k = one_voted s t a b m n h k
  one_standing s t a b (Voted m) (Repaired n) h k = absurd (not_voted_and_repaired s t a b m n h k)
  one_standing s t a b (Voted m) Disputed h k = absurd (not_disputed_and_unwoven t s k.0 h.unwoven)
  one_standing s t a b (Voted m) Missing h k = absurd (not_voted_and_missing s t a m h k.0)
  one_standing s t a b (Repaired m) Settled h k = absurd (h.missed.none (record { start = t; bytes = b }) k.there)
  one_standing s t a b (Repaired m) (Woven n) h k = absurd (not_woven_and_repaired t s b a n m k h)
  one_standing s t a b (Repaired m) (Voted n) h k = absurd (not_voted_and_repaired t s b a n m k h)
  one_standing s t a b (Repaired m) (Repaired n) h k = one_repaired s t a b m n h k
  one_standing s t a b (Repaired m) Disputed h k = absurd (not_repaired_and_disputed s t a m h k.0)
  one_standing s t a b (Repaired m) Missing h k = absurd (not_repaired_and_missing s t a m h k.0)
  one_standing s t a b Disputed Settled h k = absurd (not_settled_and_disputed (record { start = t; bytes = b }) s k h.0)
  one_standing s t a b Disputed (Woven n) h k = absurd (not_woven_and_disputed t s b a n k h)
  one_standing s t a b Disputed (Voted n) h k = absurd (not_disputed_and_unwoven s t h.0 k.unwoven)
  one_standing s t a b Disputed (Repaired n) h k = absurd (not_repaired_and_disputed t s b n k h.0)
  one_standing s t a b Disputed Disputed h k = one_gap Disputed s t a b h.1 k.1
  one_standing s t a b Disputed Missing h k = absurd (not_disputed_and_missing s t h.0 k.0)
  one_standing s t a b Missing Settled h k = absurd (missing_unsettled s h.0 (record { start = t; bytes = b }) k.there)
  one_standing s t a b Missing (Woven n) h k = absurd (not_woven_and_missing t s b n k h.0)
  one_standing s t a b Missing (Voted n) h k = absurd (not_voted_and_missing t s b n k h.0)
  one_standing s t a b Missing (Repaired n) h k = absurd (not_repaired_and_missing t s b n k h.0)
  one_standing s t a b Missing Disputed h k = absurd (not_disputed_and_missing t s k.0 h.0)
  one_standing s t a b Missing Missing h k = one_gap Missing s t a b h.1 k.1
  one_standing s t a b Undivided y h k = absurd h
  one_standing s t a b x Undivided h k = absurd k

  pub stop_not_stands : (start : ℕ) (bytes : List ℕ) (standing : Standing) → IsStop copies end → StandsAs copies start end bytes standing → ⊥
  stop_not_stands start bytes Settled stop h = stop.unsettled (record { start = start; bytes = bytes }) h
  stop_not_stands start bytes (Woven count) stop (inl h) = stop.no_claim start h.claim
  stop_not_stands start bytes (Woven count) stop (inr (inl h)) = stop.unclaimed bytes count h.1
  stop_not_stands start bytes (Woven count) stop (inr (inr h)) = stop.unwoven start bytes count h
  stop_not_stands start bytes (Voted count) stop h = stop.no_claim start (voted_claim start bytes count h)
  stop_not_stands start bytes (Repaired count) stop h = stop.no_claim start h.missed.claim
  stop_not_stands start bytes Disputed stop h = stop.no_claim start h.1.claim
  stop_not_stands start bytes Missing stop h = stop.no_claim start h.1.claim
  stop_not_stands start bytes Undivided stop h = absurd h

-- ---- one division

abbrev pub value_of : List Place → ℕ → List ℕ → SplicedValue
value_of places front payload = record { places = places; front = front; payload = payload }

-- the value with one more place
abbrev pub value_more : ℕ → StandingValue → SplicedValue → SplicedValue
value_more end place rest =
    record {
      places = record { start = place.start; end = end; standing = place.standing } ∷ rest.places;
      front = rest.front;
      payload = rest.payload ++ place.bytes;
    }

pub one_division : (copies : List (List ℕ)) (end : ℕ) (ps qs : List Place) (f g : ℕ) (a b : List ℕ) → IsSpliceBefore copies end ps f a
    → IsSpliceBefore copies end qs g b → value_of ps f a ≡ value_of qs g b
one_division copies end ps qs f g a b (stops stop least) (stops other lesser) = ap (λ z. value_of [] end z) (least_same copies end 0 a b least lesser)
one_division copies end ps qs f g a b (stops stop least) (goes {start = t} {standing = y} bytes stands k) = grind (arith, stop_not_stands)
one_division copies end ps qs f g a b (goes {start = s} {standing = x} bytes stands h) (stops stop least) = grind (arith, stop_not_stands)
one_division copies end ps qs f g a b (goes {start = s} {front = u} {standing = x} {places = more} {before = c} bytes stands h)
    (goes {start = t} {front = v} {standing = y} {places = others} {before = d} others_bytes others_stand k) =
    let place = one_standing copies end s t bytes others_bytes x y stands others_stand in
    let rest = one_division copies s more others u v c d h
    (subst (λ n. IsSpliceBefore copies n others v d) (sym (ap (λ (z : StandingValue). z.start) place)) k) in
    ap (λ z. value_more end z (value_of more u c)) place
    ∙ ap (λ z. value_more end (record { start = t; bytes = others_bytes; standing = y }) z) rest

-- what is woven from the front rests on the pieces, on the claimed starts, and on the versions with their size
front_by : (copies others : List (List ℕ)) (end : ℕ) (weave : Weave) → ((piece : LinkValue) → IsPiece others end piece → IsPiece copies end piece)
    → ((start : ℕ) → IsClaimedStart others end start → IsClaimedStart copies end start)
    → HasSameMembers (map sized (versions_at copies 0 end)) (map sized (versions_at others 0 end)) → IsWeaveFromFront copies end weave
    → IsWeaveFromFront others end weave
front_by copies others end weave piece_back start_back same h =
    record {
      none = λ piece p. h.none piece (piece_back piece p);
      no_claim = λ start claim. h.no_claim start (start_back start claim);
      content = h.content;
      short = h.short;
      weave' = weave_as Slice (map sized (versions_at copies 0 end)) (map sized (versions_at others 0 end)) same weave h.weave';
    }

-- ---- the same copies have the same pieces and claimed starts

module _ (copies others : List (List ℕ)) (same : HasSameMembers copies others) where
  pub piece_there : (end : ℕ) (piece : LinkValue) → IsPiece copies end piece → IsPiece others end piece
  piece_there end piece h =
      record { copy = h.copy; there = (same h.copy).0 h.there; cut = h.cut; content = h.content; bytes = h.bytes; passes = h.passes }

  pub piece_here : (end : ℕ) (piece : LinkValue) → IsPiece others end piece → IsPiece copies end piece
  piece_here end piece h =
      record { copy = h.copy; there = (same h.copy).1 h.there; cut = h.cut; content = h.content; bytes = h.bytes; passes = h.passes }

  pub start_there : (end start : ℕ) → IsClaimedStart copies end start → IsClaimedStart others end start
  start_there end start h = record { copy = h.copy; there = (same h.copy).0 h.there; cut = h.cut; content = h.content }

  pub start_here : (end start : ℕ) → IsClaimedStart others end start → IsClaimedStart copies end start
  start_here end start h = record { copy = h.copy; there = (same h.copy).1 h.there; cut = h.cut; content = h.content }

  pub only_same : {X : Type 0} (P Q : X → Type 0) → ((x : X) → P x → Q x) → ((x : X) → Q x → P x) → (x : X) → IsOnly P x → IsOnly Q x
  only_same P Q on back x h = record { there = on x h.there; others = λ y q. h.others y (back y q) }

  two_same : {X : Type 0} (P Q : X → Type 0) → ((x : X) → P x → Q x) → IsOfTwo P → IsOfTwo Q
  two_same P Q on h = record { one = h.one; other = h.other; one_there = on h.one h.one_there; other_there = on h.other h.other_there; differ = h.differ }

  least_there : (start end : ℕ) (bytes : List ℕ) → IsLeast copies start end bytes → IsLeast others start end bytes
  least_there start end bytes h =
      record { copy = h.copy; there = (same h.copy).0 h.there; lies = h.lies; least = λ other there. h.least other ((same other).1 there) }

  gap_there : (start end : ℕ) (bytes : List ℕ) → IsGap copies start end bytes → IsGap others start end bytes
  gap_there start end bytes h =
      record {
        claim = only_same (IsClaimedStart copies end) (IsClaimedStart others end) (start_there end) (start_here end) start h.claim;
        least = least_there start end bytes h.least;
      }

  weave_at_there : (start end : ℕ) (weave : Weave) → IsWeaveAt copies start end weave → IsWeaveAt others start end weave
  weave_at_there start end weave h =
      record {
        none = λ piece p. h.none piece (piece_here end piece p);
        claim = only_same (IsClaimedStart copies end) (IsClaimedStart others end) (start_there end) (start_here end) start h.claim;
        weave' = weave_as Slice (versions_at copies start end) (versions_at others start end) (same_versions copies others same start end) weave h.weave';
      }

  front_there : (end : ℕ) (weave : Weave) → IsWeaveFromFront copies end weave → IsWeaveFromFront others end weave
  front_there end weave h = front_by copies others end weave (piece_here end) (start_here end) (same_sized copies others same 0 end) h

  front_here : (end : ℕ) (weave : Weave) → IsWeaveFromFront others end weave → IsWeaveFromFront copies end weave
  front_here end weave h =
      front_by others copies end weave (piece_there end) (start_there end) (same_sized others copies (same_back copies others same) 0 end) h

  repair_there : (start end : ℕ) (bytes : List ℕ) (count : ℕ) → IsRepairOf (versions_at copies start end) bytes count
      → IsRepairOf (versions_at others start end) bytes count
  repair_there start end bytes count h =
      same_versions_repair.same (versions_at copies start end) (versions_at others start end) bytes count (same_versions copies others same start end) h

  repair_here : (start end : ℕ) (bytes : List ℕ) (count : ℕ) → IsRepairOf (versions_at others start end) bytes count
      → IsRepairOf (versions_at copies start end) bytes count
  repair_here start end bytes count h =
      same_versions_repair.same (versions_at others start end) (versions_at copies start end) bytes count
      (same_versions others copies (same_back copies others same) start end) h

  vote_there : (start end : ℕ) (bytes : List ℕ) (count : ℕ) → IsVoteOf (versions_at copies start end) bytes count
      → IsVoteOf (versions_at others start end) bytes count
  vote_there start end bytes count h =
      same_versions_vote.same (versions_at copies start end) (versions_at others start end) bytes count (same_versions copies others same start end) h

  unvoted_there : (start end : ℕ) → IsUnvotedAt copies start end → IsUnvotedAt others start end
  unvoted_there start end h bytes count vote =
      h bytes count (same_versions_vote.same (versions_at others start end) (versions_at copies start end) bytes count
      (same_versions others copies (same_back copies others same) start end) vote)

  unwoven_there : (start end : ℕ) → IsUnwovenAt copies start end → IsUnwovenAt others start end
  unwoven_there start end (inl h) = inl (h.0, weave_at_there start end (missing h.0) h.1)
  unwoven_there start end (inr h) = inr (weave_at_there start end too_many h)

  missing_there : (start end : ℕ) → IsMissingAt copies start end → IsMissingAt others start end
  missing_there start end (inl h, unvoted) = (
    inl (
      (h.0.0, weave_at_there start end (missing h.0.0) h.0.1),
      λ bytes count repair. h.1 bytes count (repair_here start end bytes count repair),
    ),
    unvoted_there start end unvoted,
  )
  missing_there start end (inr h, unvoted) = (inr (weave_at_there start end too_many h), unvoted_there start end unvoted)

  pub stands_there : (start end : ℕ) (bytes : List ℕ) (standing : Standing) → StandsAs copies start end bytes standing → StandsAs others start end bytes standing
  stands_there start end bytes Settled h =
      only_same (IsPiece copies end) (IsPiece others end) (piece_there end) (piece_here end) (record { start = start; bytes = bytes }) h
  stands_there start end bytes (Woven count) (inl h) = inl (weave_at_there start end (woven bytes count) h)
  stands_there start end bytes (Woven count) (inr (inl h)) = inr (inl (h.0, front_there end (woven bytes count) h.1))
  stands_there start end bytes (Woven count) (inr (inr h)) = inr (inr (several_as copies others same end start bytes count h))
  stands_there start end bytes (Voted count) h =
      record { unwoven = unwoven_there start end h.unwoven; vote = vote_there start end bytes count h.vote }
  stands_there start end bytes (Repaired count) h =
      record {
        combinations = h.combinations;
        missed = weave_at_there start end (missing h.combinations) h.missed;
        unvoted = unvoted_there start end h.unvoted;
        repair = repair_there start end bytes count h.repair;
      }
  stands_there start end bytes Disputed h = (
    elim h.0 [
      | inl two ↦ inl (two_same (IsPiece copies end) (IsPiece others end) (piece_there end) two)
      | inr w ↦ inr (weave_at_there start end disputed w)
    ],
    gap_there start end bytes h.1,
  )
  stands_there start end bytes Missing h = (missing_there start end h.0, gap_there start end bytes h.1)
  stands_there start end bytes Undivided h = absurd h

  stop_there : (end : ℕ) → IsStop copies end → IsStop others end
  stop_there end h =
      record {
        unsettled = λ piece only. h.unsettled piece (only_same (IsPiece others end) (IsPiece copies end) (piece_here end) (piece_there end) piece only);
        no_claim = λ start only. h.no_claim start (only_same (IsClaimedStart others end) (IsClaimedStart copies end) (start_here end) (start_there end) start only);
        unclaimed = λ bytes count front. h.unclaimed bytes count (front_here end (woven bytes count) front);
        unwoven = λ start bytes count several.
            h.unwoven start bytes count (several_as others copies (same_back copies others same) end start bytes count several);
      }

  pub walk_there : (end : ℕ) (places : List Place) (front : ℕ) (payload : List ℕ) → IsSpliceBefore copies end places front payload
      → IsSpliceBefore others end places front payload
  walk_there end places front payload (stops {bytes = bytes} stop least) = stops (stop_there end stop) (least_there 0 end bytes least)
  walk_there end places front payload (goes {start = start} {standing = standing} {places = more} {before = before} bytes stands h) =
      goes bytes (stands_there start end bytes standing stands) (walk_there start more front before h)

  -- the same copies have the division
  pub division_there : (divided : SplicedValue) → IsDivisionOf copies divided → IsDivisionOf others divided
  division_there divided h =
      division_of others (length divided.payload) divided.places divided.front divided.payload (λ copy there. h.one_length copy ((same copy).1 there))
      (walk_there (length divided.payload) divided.places divided.front divided.payload (division_walk copies divided h))

-- the same copies have one division
pub same_copies_divide : (copies others : List (List ℕ)) (one other : SplicedValue) → HasSameMembers copies others → IsDivisionOf copies one
    → IsDivisionOf others other → one ≡ other
same_copies_divide copies others one other same h k =
    let long : length one.payload ≡ length other.payload =
    sym (h.one_length h.before.copy h.before.there) ∙ k.one_length h.before.copy ((same h.before.copy).0 h.before.there) in
    let walk = walk_there copies others same (length one.payload) one.places one.front one.payload (division_walk copies one h) in
    cc (one_division others (length other.payload) one.places other.places one.front other.front one.payload other.payload (subst (λ n. IsSpliceBefore others n one.places one.front one.payload) long walk) (division_walk others other k))
