-- The settled walks: one place more, and bytes that are written elsewhere.
use Rattle.ffv1_splice.proofs.Common.{◌≡◌, ℕ, ◌+◌, ◌-◌, ◌≤◌, List, [], ◌∷◌, ◌++◌, length, get_or, take, drop, refl, sym, ap, ◌∙◌, subst, arith, All, slice_range, drop-append_seam, drop-drop, take-take, take-append-le, take_all, length-take-le, between_is, All-nil, All-cons, All-tail, All-append, LinkValue, IsOnly, IsPiece, PieceFrom, IsShortest, written, LieFrom, RiseFrom, IsSettledDown, IsSettledUp, Settled, Place}
use Rattle.ffv1_splice.proofs.PlaceSteps.{cut_below}
use Rattle.ffv1_splice.proofs.SpliceSteps.{drop-written}
use Rattle.ffv1_splice.proofs.Walks.{front_below}
use Rattle.ffv1_splice.proofs.PlaceLists.{lie_append, start_below}

-- ---- the same bytes

-- what begins after a place is the same where all after it is
pub range_after : (a b : List ℕ) (from start end : ℕ) → from ≤ start → drop from a ≡ drop from b → slice_range a start end ≡ slice_range b start end
range_after a b from start end after same =
    ap (take (end - start)) (back a ∙ ap (drop (start - from)) same ∙ sym (back b))
  where
    back : (bytes : List ℕ) → drop start bytes ≡ drop (start - from) (drop from bytes)
    back bytes = let on : start ≡ from + (start - from) = omega arith in ap (λ n. drop n bytes) on ∙ sym (drop-drop (start - from) from bytes)

-- what ends before a place is the same where all before it is
pub range_before : (a b : List ℕ) (to start end : ℕ) → end ≤ to → take to a ≡ take to b → slice_range a start end ≡ slice_range b start end
range_before a b to start end before same = front a ∙ ap (λ z. drop start (take end z)) same ∙ sym (front b)
  where
    front : (bytes : List ℕ) → slice_range bytes start end ≡ drop start (take end (take to bytes))
    front bytes = between_is bytes start end ∙ ap (drop start) (sym (take-take end to bytes before))

-- what is the same up to a place is so up to an earlier one
pub take_earlier : (a b : List ℕ) (from to : ℕ) → from ≤ to → take to a ≡ take to b → take from a ≡ take from b
take_earlier a b from to early same = sym (take-take from to a early) ∙ ap (take from) same ∙ take-take from to b early

module _ (payload : List ℕ) (start end : ℕ) (bytes : List ℕ) (size : start + length bytes ≡ end) (within : end ≤ length payload) where
  -- nothing changes after what is written
  pub after_written : drop end (written payload start bytes) ≡ drop end payload
  after_written =
      ap (λ n. drop n (written payload start bytes)) (sym size) ∙ sym (drop-drop (length bytes) start (written payload start bytes))
      ∙ ap (drop (length bytes)) (drop-written payload start bytes (omega arith))
      ∙ drop-append_seam bytes (drop (start + length bytes) payload) ∙ ap (λ n. drop n payload) size

  -- nor before it
  pub before_written : take start (written payload start bytes) ≡ take start payload
  before_written = grind (arith, take-append-le, length-take-le, take-take)

  pub here_written : slice_range (written payload start bytes) start end ≡ bytes
  here_written = grind (arith, drop-written, take-append-le, take_all)

-- ---- down

pub lie_more : (whole mid : ℕ) (places : List Place) (place : Place) → LieFrom whole places mid → place.end ≡ mid → LieFrom whole (places ++ place ∷ []) place.start
lie_more whole mid places place lie ends = lie_append whole mid place.start places (place ∷ []) lie (ends, refl)

-- places lie above the front
pub starts_above : (whole front : ℕ) (places : List Place) → All (λ place. place.start ≤ place.end) places → LieFrom whole places front
    → All (λ place. front ≤ place.start) places
starts_above whole front [] up lie = All-nil (λ place. front ≤ place.start)
starts_above whole front (place ∷ places) up lie =
    let rest = All-tail (λ place. place.start ≤ place.end) place places up in
    All-cons (λ place. front ≤ place.start) place places (front_below place.start places front rest lie.1)
    (starts_above place.start front places rest lie.1)

module _ (copies : List (List ℕ)) where
  pub down_upright : (payload : List ℕ) (places : List Place) → All (IsSettledDown copies payload) places → All (λ place. place.start ≤ place.end) places
  down_upright payload places settled k d lt = grind (arith, cut_below)

  -- settled places stay so where the bytes after the front stay
  pub down_kept : (a b : List ℕ) (places : List Place) (whole front : ℕ) → LieFrom whole places front → All (IsSettledDown copies a) places
      → drop front a ≡ drop front b → All (IsSettledDown copies b) places
  down_kept a b places whole front lie settled same k d lt =
      let place : Place = get_or places k d in
      let is = settled k d lt in
      let above = starts_above whole front places (down_upright a places settled) lie k d lt in
      record {
        standing = is.standing;
        only = rw (← range_after a b front place.start place.end above same) is.only;
      }

  pub down_more : (payload : List ℕ) (places : List Place) (whole start end : ℕ) (bytes : List ℕ) → LieFrom whole places end
      → All (IsSettledDown copies payload) places → IsOnly (IsPiece copies end) (record { start = start; bytes = bytes })
      → start + length bytes ≡ end → end ≤ length payload
      → All (IsSettledDown copies (written payload start bytes)) (places ++ record { start = start; end = end; standing = Settled } ∷ [])
  down_more payload places whole start end bytes lie settled only size within =
      let place : Place = record { start = start; end = end; standing = Settled } in
      let new : List ℕ = written payload start bytes in
      All-append (IsSettledDown copies new) places (place ∷ [])
      (down_kept payload new places whole end lie settled (sym (after_written payload start end bytes size within)))
      (All-cons (IsSettledDown copies new) place [] (record {
        standing = refl;
        only = subst (λ z. IsOnly (IsPiece copies end) (record { start = start; bytes = z })) (sym (here_written payload start end bytes size within)) only;
      }) (All-nil (IsSettledDown copies new)))

-- ---- up

pub rise_more : (from mid : ℕ) (places : List Place) (place : Place) → RiseFrom from places mid → place.start ≡ mid → RiseFrom from (places ++ place ∷ []) place.end
rise_more from mid [] place rise starts = (starts ∙ sym rise, refl)
rise_more from mid (first ∷ places) place rise starts = (rise.0, rise_more first.end mid places place rise.1 starts)

-- places lie below the top
pub ends_under : (from top : ℕ) (places : List Place) → All (λ place. place.start ≤ place.end) places → RiseFrom from places top
    → All (λ place. place.end ≤ top) places
ends_under from top [] up rise = All-nil (λ place. place.end ≤ top)
ends_under from top (place ∷ places) up rise =
    let rest = All-tail (λ place. place.start ≤ place.end) place places up in
    All-cons (λ place. place.end ≤ top) place places (start_below place.end places top rise.1 rest)
    (ends_under place.end top places rest rise.1)

module _ (copies : List (List ℕ)) (bound : ℕ) where
  pub shortest_below : (start : ℕ) (piece : PieceFrom) → IsShortest copies bound start piece → start + 8 ≤ piece.end
  shortest_below start piece is = cut_below is.there.there.copy start piece.end is.there.there.cut

  pub up_upright : (payload : List ℕ) (places : List Place) → All (IsSettledUp copies bound payload) places → All (λ place. place.start ≤ place.end) places
  up_upright payload places settled k d lt = grind (arith, shortest_below)

  -- settled places stay so where the bytes before the top stay
  pub up_kept : (a b : List ℕ) (places : List Place) (from top : ℕ) → RiseFrom from places top → All (IsSettledUp copies bound a) places
      → take top a ≡ take top b → All (IsSettledUp copies bound b) places
  up_kept a b places from top rise settled same k d lt =
      let place : Place = get_or places k d in
      let is = settled k d lt in
      let upright = up_upright a places settled in
      let bytes = range_before a b top place.start place.end (ends_under from top places upright rise k d lt) same in
      grind arith

  pub up_more : (payload : List ℕ) (from : ℕ) (places : List Place) (start end : ℕ) (bytes : List ℕ) → RiseFrom from places start
      → All (IsSettledUp copies bound payload) places
      → IsShortest copies bound start (record { end = end; bytes = bytes }) → IsOnly (IsPiece copies end) (record { start = start; bytes = bytes })
      → start + length bytes ≡ end → end ≤ length payload
      → All (IsSettledUp copies bound (written payload start bytes)) (places ++ record { start = start; end = end; standing = Settled } ∷ [])
  up_more payload from places start end bytes rise settled first only size within =
      let place : Place = record { start = start; end = end; standing = Settled } in
      let new : List ℕ = written payload start bytes in
      let here = sym (here_written payload start end bytes size within) in
      All-append (IsSettledUp copies bound new) places (place ∷ [])
      (up_kept payload new places from start rise settled (sym (before_written payload start end bytes size within)))
      (All-cons (IsSettledUp copies bound new) place [] (record {
        standing = refl;
        first = subst (λ z. IsShortest copies bound start (record { end = end; bytes = z })) here first;
        only = subst (λ z. IsOnly (IsPiece copies end) (record { start = start; bytes = z })) here only;
      }) (All-nil (IsSettledUp copies bound new)))

  -- ---- the shortest from a place

  -- where another piece ends at the end of one of the shortest, none is settled
  pub shared_end : (start : ℕ) (one : PieceFrom) → IsShortest copies bound start one
      → ((piece : LinkValue) → IsOnly (IsPiece copies one.end) piece → ⊥) → (piece : PieceFrom) → IsShortest copies bound start piece
      → IsOnly (IsPiece copies piece.end) (record { start = start; bytes = piece.bytes }) → ⊥
  shared_end start one is shared piece also only =
      let after = also.least one is.there in
      let ends : piece.end ≡ one.end = omega arith in
      shared (record { start = start; bytes = piece.bytes }) (subst (λ n. IsOnly (IsPiece copies n) (record { start = start; bytes = piece.bytes })) ends only)

  -- one of the shortest at whose end some piece ends alone is that piece
  pub alone_at_end : (start : ℕ) (one : PieceFrom) (piece : LinkValue) → IsShortest copies bound start one → IsOnly (IsPiece copies one.end) piece
      → IsOnly (IsPiece copies one.end) (record { start = start; bytes = one.bytes })
  alone_at_end start one piece is only =
      subst (IsOnly (IsPiece copies one.end)) (sym (only.others (record { start = start; bytes = one.bytes }) is.there.there)) only
