-- Copies have one splice, and it rests on the set of the copies alone.
use Rattle.ffv1_splice.proofs.Common.{◌≡◌, ℕ, ◌-◌, ◌≤◌, List, [], ◌∷◌, ◌++◌, length, refl, sym, ap, ◌∙◌, subst, arith, inl, inr, ◌⊎◌, All, reverse, slice_range, All-nil, All-cons, All-head, All-tail, All-append, All-weaker, LinkValue, link_of, IsOnly, HasSameMembers, IsPiece, IsClaimedStart, PieceFrom, IsPieceFrom, IsShortest, versions_at, StandsAs, SplicedValue, LieFrom, RiseFrom, IsSettledDown, IsSettledUp, IsWalkDown, IsBound, IsWalkUp, IsClaimedEnd, IsLostUpTo, IsCrossed, Crossing, AreCrossings, IsWalkAcross, crossing_places, IsDivisionOf, hole_places, front_of, IsSpliceOf, SameCopiesSplice, Place, same_back}
use Rattle.ffv1_splice.specs.declared.crossing.TheConstants.{MOST_CROSSED}
use Rattle.ffv1_splice.proofs.Versions.{same_versions}
use Rattle.ffv1_splice.proofs.OneDivision.{one_standing, piece_there, piece_here, start_there, start_here, only_same, stands_there, division_there, same_copies_divide}
use Rattle.ffv1_splice.proofs.SplicePlaces.{lower, copy_at_hand}
use Rattle.ffv1_splice.proofs.BoundSteps.{one_bound}
use Rattle.ffv1_splice.proofs.SameBytes.{IsSameAt, same_by_parts}

-- ---- the same copies settle the same

module _ (copies others : List (List ℕ)) (same : HasSameMembers copies others) where
  from_there : (bound start : ℕ) (piece : PieceFrom) → IsPieceFrom copies bound start piece → IsPieceFrom others bound start piece
  from_there bound start piece h = grind (arith, piece_there)

  from_here : (bound start : ℕ) (piece : PieceFrom) → IsPieceFrom others bound start piece → IsPieceFrom copies bound start piece
  from_here bound start piece h = grind (arith, piece_here)

  shortest_there : (bound start : ℕ) (piece : PieceFrom) → IsShortest copies bound start piece → IsShortest others bound start piece
  shortest_there bound start piece h =
      record { there = from_there bound start piece h.there; least = λ other k. h.least other (from_here bound start other k) }

  shortest_here : (bound start : ℕ) (piece : PieceFrom) → IsShortest others bound start piece → IsShortest copies bound start piece
  shortest_here bound start piece h =
      record { there = from_here bound start piece h.there; least = λ other k. h.least other (from_there bound start other k) }

  only_there : (end : ℕ) (piece : LinkValue) → IsOnly (IsPiece copies end) piece → IsOnly (IsPiece others end) piece
  only_there end = only_same copies others same (IsPiece copies end) (IsPiece others end) (piece_there copies others same end) (piece_here copies others same end)

  only_here : (end : ℕ) (piece : LinkValue) → IsOnly (IsPiece others end) piece → IsOnly (IsPiece copies end) piece
  only_here end = only_same copies others same (IsPiece others end) (IsPiece copies end) (piece_here copies others same end) (piece_there copies others same end)

  bound_there : (end bound : ℕ) → IsBound copies end bound → IsBound others end bound
  bound_there end bound (inl h) = inl (λ piece k. h.0 piece (piece_here copies others same end piece k), h.1)
  bound_there end bound (inr h) =
      inr (h.0, piece_there copies others same end h.0 h.1, h.2, λ other k. h.3 other (piece_here copies others same end other k))

  down_there : (payload : List ℕ) (places : List Place) (end : ℕ) → IsWalkDown copies payload places end → IsWalkDown others payload places end
  down_there payload places end h =
      record {
        lie = h.lie;
        settled = All-weaker (IsSettledDown copies payload) (IsSettledDown others payload)
            (λ place settled. record {
              standing = settled.standing;
              only = only_there place.end (link_of payload place.start place.end) settled.only;
            }) places h.settled;
        stop = λ piece only. h.stop piece (only_here end piece only);
      }

  up_there : (bound : ℕ) (payload : List ℕ) (from : ℕ) (places : List Place) (start : ℕ) → IsWalkUp copies bound payload from places start
      → IsWalkUp others bound payload from places start
  up_there bound payload from places start h =
      record {
        rise = h.rise;
        settled = All-weaker (IsSettledUp copies bound payload) (IsSettledUp others bound payload)
            (λ place settled. record {
              standing = settled.standing;
              first = shortest_there bound place.start (record { end = place.end; bytes = slice_range payload place.start place.end }) settled.first;
              only = only_there place.end (link_of payload place.start place.end) settled.only;
            }) places h.settled;
        stop = λ piece first only. h.stop piece (shortest_here bound start piece first)
            (only_here piece.end (record { start = start; bytes = piece.bytes }) only);
      }

  lost_there : (reach end : ℕ) → IsLostUpTo copies reach end → IsLostUpTo others reach end
  lost_there reach end h =
      record {
        lost = λ piece k. h.lost piece (from_here reach 0 piece k);
        end' = only_same copies others same (IsClaimedEnd copies reach) (IsClaimedEnd others reach)
            (λ at k. record { claim = start_there copies others same at 0 k.claim; within = k.within })
            (λ at k. record { claim = start_here copies others same at 0 k.claim; within = k.within }) end h.end';
        start = only_same copies others same (IsClaimedStart copies end) (IsClaimedStart others end) (start_there copies others same end)
            (start_here copies others same end) 0 h.start;
        none = λ piece k. h.none piece (piece_here copies others same end piece k);
        next = (h.next.0, from_there reach end h.next.0 h.next.1);
      }

module _ (copies others : List (List ℕ)) (same : HasSameMembers copies others) where
  crossings_there : (bound : ℕ) (payload : List ℕ) (start : ℕ) (crossings : List Crossing) (top : ℕ) → AreCrossings copies bound payload start crossings top
      → AreCrossings others bound payload start crossings top
  crossings_there bound payload start [] top are = are
  crossings_there bound payload start (crossing ∷ crossings) top are = (
    are.0,
    record {
      size = are.1.size;
      ends = are.1.ends;
      lost = lost_there (versions_at copies crossing.over.start bound) (versions_at others crossing.over.start bound)
          (same_versions copies others same crossing.over.start bound) (bound - crossing.over.start) are.1.size are.1.lost;
      stands = stands_there (versions_at copies crossing.over.start bound) (versions_at others crossing.over.start bound)
          (same_versions copies others same crossing.over.start bound) 0 are.1.size (slice_range payload crossing.over.start crossing.over.end) crossing.over.standing are.1.stands;
    },
    are.2,
    up_there copies others same bound payload crossing.over.end crossing.settled are.2 are.3,
    crossings_there bound payload are.2 crossings top are.4,
  )

  across_there : (bound : ℕ) (payload : List ℕ) (start : ℕ) (crossings : List Crossing) (top : ℕ) → IsWalkAcross copies bound payload start crossings top
      → IsWalkAcross others bound payload start crossings top
  across_there bound payload start crossings top h =
      record {
        are = crossings_there bound payload start crossings top h.are;
        few = h.few;
        stop = elim h.stop [
          | inl most ↦ inl most
          | inr none ↦ inr (λ end lost. none end (lost_there (versions_at others top bound) (versions_at copies top bound)
              (same_versions others copies (same_back copies others same) top bound) (bound - top) end lost))
        ];
      }

  -- the same copies have the splice
  pub splice_there : (spliced : SplicedValue) → IsSpliceOf copies spliced → IsSpliceOf others spliced
  splice_there spliced is =
      record {
        above = is.above;
        below = is.below;
        crossings = is.crossings;
        floor = is.floor;
        start = is.start;
        end = is.end;
        bound = is.bound;
        hole = is.hole;
        one_length = λ copy there. is.one_length copy ((same copy).1 there);
        down = down_there copies others same spliced.payload is.above is.end is.down;
        room = bound_there copies others same is.end is.bound is.room;
        up = up_there copies others same is.bound spliced.payload 0 is.below is.floor is.up;
        across = across_there is.bound spliced.payload is.floor is.crossings is.start is.across;
        divided = division_there (versions_at copies is.start is.end) (versions_at others is.start is.end)
            (same_versions copies others same is.start is.end) is.hole is.divided;
        bytes = is.bytes;
        places = is.places;
        front = is.front;
      }

-- ---- one walk

same_place : (one other : Place) → one.start ≡ other.start → one.end ≡ other.end → one.standing ≡ other.standing → one ≡ other
same_place one other start end standing = grind arith

-- what two walks from one place have in common
record IsOneWalk (a b : List ℕ) (ps qs : List Place) (s t : ℕ) : Type 0 where
  pub places : ps ≡ qs
  pub stop : s ≡ t
  pub bytes : All (IsSameAt a b) ps

module _ (a b : List ℕ) (p q : Place) (starts : p.start ≡ q.start) (ends : p.end ≡ q.end) where
  same_there : slice_range a p.start p.end ≡ slice_range b q.start q.end → IsSameAt a b p
  same_there bytes = bytes ∙ sym (ap (λ s. slice_range b s q.end) starts) ∙ sym (ap (λ e. slice_range b p.start e) ends)

  one_more : (ps qs : List Place) (s t : ℕ) → p.standing ≡ q.standing → slice_range a p.start p.end ≡ slice_range b q.start q.end
      → IsOneWalk a b ps qs s t → IsOneWalk a b (p ∷ ps) (q ∷ qs) s t
  one_more ps qs s t standings bytes rest = grind (arith, same_place, All-cons, same_there)

module _ (copies : List (List ℕ)) (a b : List ℕ) where
  -- of places that end alike, each with the only piece that ends there
  same_piece : (p q : Place) → p.end ≡ q.end → IsOnly (IsPiece copies p.end) (link_of a p.start p.end)
      → IsOnly (IsPiece copies q.end) (link_of b q.start q.end) → link_of a p.start p.end ≡ link_of b q.start q.end
  same_piece p q ends h k = k.others (link_of a p.start p.end) (subst (λ n. IsPiece copies n (link_of a p.start p.end)) ends h.there)

  one_down : (from : ℕ) (ps qs : List Place) (s t : ℕ) → LieFrom from ps s → LieFrom from qs t → All (IsSettledDown copies a) ps
      → All (IsSettledDown copies b) qs → ((piece : LinkValue) → IsOnly (IsPiece copies s) piece → ⊥) → ((piece : LinkValue) → IsOnly (IsPiece copies t) piece → ⊥)
      → IsOneWalk a b ps qs s t
  one_down from [] [] s t lie lay h k stop halt = record { places = refl; stop = sym lie ∙ lay; bytes = All-nil (IsSameAt a b) }
  one_down from [] (q ∷ qs) s t lie lay h k stop halt =
      absurd (stop (link_of b q.start q.end) (subst (λ n. IsOnly (IsPiece copies n) (link_of b q.start q.end)) (lay.0 ∙ lie)
      (All-head (IsSettledDown copies b) q qs k).only))
  one_down from (p ∷ ps) [] s t lie lay h k stop halt =
      absurd (halt (link_of a p.start p.end) (subst (λ n. IsOnly (IsPiece copies n) (link_of a p.start p.end)) (lie.0 ∙ lay)
      (All-head (IsSettledDown copies a) p ps h).only))
  one_down from (p ∷ ps) (q ∷ qs) s t lie lay h k stop halt =
      let mine = All-head (IsSettledDown copies a) p ps h in
      let yours = All-head (IsSettledDown copies b) q qs k in
      let ends : p.end ≡ q.end = lie.0 ∙ sym lay.0 in
      let piece = same_piece p q ends mine.only yours.only in
      let starts : p.start ≡ q.start = ap (λ (x : LinkValue). x.start) piece in
      one_more a b p q starts ends ps qs s t (mine.standing ∙ sym yours.standing) (ap (λ (x : LinkValue). x.bytes) piece)
      (one_down p.start ps qs s t lie.1 (rw starts lay.1) (All-tail (IsSettledDown copies a) p ps h) (All-tail (IsSettledDown copies b) q qs k) stop halt)

-- ---- one walk up

-- no shortest piece from a start ends alone at its end
abbrev StopsUp : (copies : List (List ℕ)) (bound start : ℕ) → Type 0
StopsUp copies bound start =
    (piece : PieceFrom) → IsShortest copies bound start piece
    → IsOnly (IsPiece copies piece.end) (record { start = start; bytes = piece.bytes }) → ⊥

module _ (copies : List (List ℕ)) (bound : ℕ) where
  -- no place is settled up from there
  stopped : (payload : List ℕ) (place : Place) → StopsUp copies bound place.start → IsSettledUp copies bound payload place → ⊥
  stopped payload place stop settled =
      stop (record { end = place.end; bytes = slice_range payload place.start place.end }) settled.first settled.only

  -- the shortest pieces from one start end alike
  same_end : (s t : ℕ) (x y : PieceFrom) → s ≡ t → IsShortest copies bound s x → IsShortest copies bound t y → x.end ≡ y.end
  same_end s t x y starts h k =
      let mine = subst (λ n. IsShortest copies bound n x) starts h in
      let after = k.least x mine.there in
      omega arith

  module _ (a b : List ℕ) where
    one_up : (from : ℕ) (ps qs : List Place) (s t : ℕ) → RiseFrom from ps s → RiseFrom from qs t → All (IsSettledUp copies bound a) ps
        → All (IsSettledUp copies bound b) qs → StopsUp copies bound s → StopsUp copies bound t → IsOneWalk a b ps qs s t
    one_up from [] [] s t rise risen h k stop halt = record { places = refl; stop = sym rise ∙ risen; bytes = All-nil (IsSameAt a b) }
    one_up from [] (q ∷ qs) s t rise risen h k stop halt =
        absurd (stopped b q (subst (StopsUp copies bound) (sym (risen.0 ∙ rise)) stop) (All-head (IsSettledUp copies bound b) q qs k))
    one_up from (p ∷ ps) [] s t rise risen h k stop halt =
        absurd (stopped a p (subst (StopsUp copies bound) (sym (rise.0 ∙ risen)) halt) (All-head (IsSettledUp copies bound a) p ps h))
    one_up from (p ∷ ps) (q ∷ qs) s t rise risen h k stop halt =
        let mine = All-head (IsSettledUp copies bound a) p ps h in
        let yours = All-head (IsSettledUp copies bound b) q qs k in
        let starts : p.start ≡ q.start = rise.0 ∙ sym risen.0 in
        let ends : p.end ≡ q.end =
        cc (same_end p.start q.start (record { end = p.end; bytes = slice_range a p.start p.end }) (record { end = q.end; bytes = slice_range b q.start q.end }) starts mine.first yours.first) in
        one_more a b p q starts ends ps qs s t (mine.standing ∙ sym yours.standing)
        (ap (λ (x : LinkValue). x.bytes) (same_piece copies a b p q ends mine.only yours.only))
        (one_up p.end ps qs s t rise.1 (subst (λ n. RiseFrom n qs t) (sym ends) risen.1) (All-tail (IsSettledUp copies bound a) p ps h)
        (All-tail (IsSettledUp copies bound b) q qs k) stop halt)

-- ---- one walk across

-- no slice that begins there is lost in all copies
abbrev StopsAcross : (copies : List (List ℕ)) (bound start : ℕ) → Type 0
StopsAcross copies bound start = (end : ℕ) → IsLostUpTo (versions_at copies start bound) (bound - start) end → ⊥

joined_walks : (a b : List ℕ) (ps qs more others : List Place) (s t u v : ℕ) → IsOneWalk a b ps qs s t → IsOneWalk a b more others u v
    → IsOneWalk a b (ps ++ more) (qs ++ others) u v
joined_walks a b ps qs more others s t u v h k =
    record {
      places = ap (λ z. z ++ more) h.places ∙ ap (λ z. qs ++ z) k.places;
      stop = k.stop;
      bytes = All-append (IsSameAt a b) ps more h.bytes k.bytes;
    }

module _ (copies : List (List ℕ)) (bound : ℕ) (a b : List ℕ) where
  -- what two places over a lost slice have in common
  record IsOnePlace (p q : Place) : Type 0 where
    pub end' : p.end ≡ q.end
    pub standing : p.standing ≡ q.standing
    pub bytes : slice_range a p.start p.end ≡ slice_range b q.start q.end

  one_crossed : (p q : Place) → p.start ≡ q.start → IsCrossed copies bound a p → IsCrossed copies bound b q → IsOnePlace p q
  one_crossed p q starts h k =
      let versions : List (List ℕ) = versions_at copies p.start bound in
      let lost : IsLostUpTo versions (bound - p.start) k.size =
      subst (λ s. IsLostUpTo (versions_at copies s bound) (bound - s) k.size) (sym starts) k.lost in
      let size : k.size ≡ h.size = h.lost.end'.others k.size lost.end'.there in
      let stands : StandsAs versions 0 h.size (slice_range b q.start q.end) q.standing =
      subst (λ n. StandsAs versions 0 n (slice_range b q.start q.end) q.standing) size
      (subst (λ s. StandsAs (versions_at copies s bound) 0 k.size (slice_range b q.start q.end) q.standing) (sym starts) k.stands) in
      let one = one_standing versions h.size 0 0 (slice_range a p.start p.end) (slice_range b q.start q.end) p.standing q.standing h.stands stands in
      grind arith

  one_across : (most start : ℕ) (crossings others : List Crossing) (s t : ℕ) → AreCrossings copies bound a start crossings s → AreCrossings copies bound b start others t
      → length crossings ≤ most → length others ≤ most → (length crossings ≡ most) ⊎ StopsAcross copies bound s
      → (length others ≡ most) ⊎ StopsAcross copies bound t → IsOneWalk a b (crossing_places crossings) (crossing_places others) s t
  one_across most start [] [] s t are be few less stop halt = record { places = refl; stop = sym are ∙ be; bytes = All-nil (IsSameAt a b) }
  one_across most start [] (crossing ∷ others) s t are be few less stop halt =
      absurd (elim stop [
        | inl same ↦ omega arith
        | inr none ↦ subst (StopsAcross copies bound) (sym (be.0 ∙ are)) none be.1.size be.1.lost
      ])
  one_across most start (crossing ∷ crossings) [] s t are be few less stop halt =
      absurd (elim halt [
        | inl same ↦ omega arith
        | inr none ↦ subst (StopsAcross copies bound) (sym (are.0 ∙ be)) none are.1.size are.1.lost
      ])
  one_across most start (crossing ∷ crossings) (other ∷ others) s t are be few less stop halt =
      let starts : crossing.over.start ≡ other.over.start = are.0 ∙ sym be.0 in
      let over = one_crossed crossing.over other.over starts are.1 be.1 in
      let rising : IsWalkUp copies bound b crossing.over.end other.settled be.2 = grind arith in
      let up = one_up copies bound a b crossing.over.end crossing.settled other.settled are.2 be.2 are.3.rise rising.rise are.3.settled rising.settled are.3.stop rising.stop in
      let rest = one_across (most - 1) are.2 crossings others s t are.4 (subst (λ n. AreCrossings copies bound b n others t) (sym up.stop) be.4)
      (omega arith) (omega arith) (elim stop [ inl same ↦ inl (omega arith) | inr none ↦ inr none ])
      (elim halt [ inl same ↦ inl (omega arith) | inr none ↦ inr none ]) in
      one_more a b crossing.over other.over starts over.end' (crossing.settled ++ crossing_places crossings) (other.settled ++ crossing_places others) s t over.standing over.bytes
      (joined_walks a b crossing.settled other.settled (crossing_places crossings) (crossing_places others) are.2 be.2 s t up rest)

-- ---- one splice

same_value : (one other : SplicedValue) → one.places ≡ other.places → one.front ≡ other.front → one.payload ≡ other.payload → one ≡ other
same_value one other places front payload = grind arith

one_splice : (copies : List (List ℕ)) (one other : SplicedValue) → IsSpliceOf copies one → IsSpliceOf copies other → one ≡ other
one_splice copies one other is k =
    let copy = copy_at_hand copies one is in
    let long : length one.payload ≡ length other.payload = sym (is.one_length copy.0 copy.1) ∙ k.one_length copy.0 copy.1 in
    let down = one_down copies one.payload other.payload (length one.payload) is.above k.above is.end k.end is.down.lie
    (subst (λ n. LieFrom n k.above k.end) (sym long) k.down.lie) is.down.settled k.down.settled is.down.stop k.down.stop in
    let bounds : is.bound ≡ k.bound = one_bound copies k.end is.bound k.bound (subst (λ n. IsBound copies n is.bound) down.stop is.room) k.room in
    let rising : IsWalkUp copies is.bound other.payload 0 k.below k.floor = grind arith in
    let first = one_up copies is.bound one.payload other.payload 0 is.below k.below is.floor k.floor is.up.rise rising.rise is.up.settled rising.settled
    is.up.stop rising.stop in
    let across : IsWalkAcross copies is.bound other.payload is.floor k.crossings k.start = grind arith in
    let up = joined_walks one.payload other.payload is.below k.below (crossing_places is.crossings) (crossing_places k.crossings) is.floor k.floor is.start k.start first
    (one_across copies is.bound one.payload other.payload MOST_CROSSED is.floor is.crossings k.crossings is.start k.start is.across.are across.are is.across.few
    across.few is.across.stop across.stop) in
    let divided : IsDivisionOf (versions_at copies is.start is.end) k.hole = grind (arith, versions_at) in
    let versions : List (List ℕ) = versions_at copies is.start is.end in
    let hole : is.hole ≡ k.hole = same_copies_divide versions versions is.hole k.hole (λ version. ((λ there. there), λ there. there)) is.divided divided in
    let bytes : is.hole.payload ≡ slice_range other.payload is.start is.end = grind arith in
    cc (same_value one other (is.places ∙ ap (λ z. z ++ (hole_places is.start is.hole ++ reverse (lower copies one is))) down.places ∙ ap (λ n. k.above ++ (hole_places n is.hole ++ reverse (lower copies one is))) up.stop ∙ ap (λ h. k.above ++ (hole_places k.start h ++ reverse (lower copies one is))) hole ∙ ap (λ z. k.above ++ (hole_places k.start k.hole ++ reverse z)) up.places ∙ sym k.places) (is.front ∙ ap (λ n. front_of n is.hole.front) up.stop ∙ ap (λ (h : SplicedValue). front_of k.start h.front) hole ∙ sym k.front) (same_by_parts copies one is other.payload long down.bytes up.bytes bytes))

pub same_copies_splice : SameCopiesSplice
same_copies_splice copies others one other same is k = one_splice others one other (splice_there copies others same one is) k
