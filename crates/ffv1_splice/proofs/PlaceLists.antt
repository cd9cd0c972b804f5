-- Lists of places that lie end to end.
use Rattle.ffv1_splice.proofs.Common.{◌≡◌, ℕ, zero, suc, ◌+◌, ◌-◌, ◌<◌, ◌≤◌, List, [], ◌∷◌, ◌++◌, length, get_or, map, refl, sym, ap, ◌∙◌, subst, arith, All, reverse, length-append, length-map, length-reverse, get_or_append_left, get_or-append_right, get_or-map, get_or-reverse, reverse-append, All-nil, All-cons, All-head, All-tail, LieFrom, RiseFrom, moved_by, undivided_places, front_of, IsSettledOrWoven, Undivided, Place}

-- ---- what is so of each part of a list

module _ {X : Type 0} (P : X → Type 0) where
  pub All-reverse : (xs : List X) → All P xs → All P (reverse xs)
  All-reverse xs all k d lt = grind (arith, length-reverse, get_or-reverse)

  pub All-left : (xs ys : List X) → All P (xs ++ ys) → All P xs
  All-left xs ys all k d lt = subst P (get_or_append_left xs ys d k lt) (all k d (omega (arith, lt, length-append xs ys)))

  pub All-right : (xs ys : List X) → All P (xs ++ ys) → All P ys
  All-right xs ys all k d lt =
      let at : length xs + k - length xs ≡ k = omega arith in
      subst P (get_or-append_right xs ys (length xs) (length xs + k) d refl (omega arith) ∙ ap (λ i. get_or ys i d) at)
      (all (length xs + k) d (omega (arith, lt, length-append xs ys)))

  pub All-mapped : {Y : Type 0} (f : Y → X) (ys : List Y) → All P (map f ys) → All (λ y. P (f y)) ys
  All-mapped f ys all k d lt = subst P (get_or-map f ys k d (f d) lt) (all k (f d) (omega (arith, lt, length-map ys f)))

-- ---- places that lie end to end

pub lie_append : (end middle front : ℕ) (places others : List Place) → LieFrom end places middle → LieFrom middle others front
    → LieFrom end (places ++ others) front
lie_append end middle front [] others lie more = subst (λ n. LieFrom n others front) (sym lie) more
lie_append end middle front (place ∷ places) others lie more = (lie.0, lie_append place.start middle front places others lie.1 more)

-- places that rise lie in the other order
pub lie_reverse : (start top : ℕ) (places : List Place) → RiseFrom start places top → LieFrom top (reverse places) start
lie_reverse start top [] rise = sym rise
lie_reverse start top (place ∷ places) rise =
    subst (λ z. LieFrom top z start) (sym (reverse-append (place ∷ []) places))
    (lie_append top place.end start (reverse places) (place ∷ []) (lie_reverse place.end top places rise.1) (refl, rise.0))

pub lie_moved : (start end : ℕ) (places : List Place) (front : ℕ) → LieFrom end places front
    → LieFrom (start + end) (map (moved_by start) places) (start + front)
lie_moved start end [] front lie = ap (λ n. start + n) lie
lie_moved start end (place ∷ places) front lie = (ap (λ n. start + n) lie.0, lie_moved start place.start places front lie.1)

-- ---- places that rise

-- none ends after a bound, so their top doesn't
pub top_below : (bound start : ℕ) (places : List Place) (top : ℕ) → RiseFrom start places top → start ≤ bound → All (λ place. place.end ≤ bound) places
    → top ≤ bound
top_below bound start [] top rise first within = omega arith
top_below bound start (place ∷ places) top rise first within =
    top_below bound place.end places top rise.1 (All-head (λ place. place.end ≤ bound) place places within)
    (All-tail (λ place. place.end ≤ bound) place places within)

pub start_below : (start : ℕ) (places : List Place) (top : ℕ) → RiseFrom start places top → All (λ place. place.start ≤ place.end) places → start ≤ top
start_below start [] top rise up = omega arith
start_below start (place ∷ places) top rise up =
    grind (arith, All-head, All-tail, start_below place.end places top rise.1 (All-tail (λ place. place.start ≤ place.end) place places up))

-- what of a hole can't be divided, and what lies below the hole
pub lie_below : (start front : ℕ) (places : List Place) → RiseFrom 0 places start → All (λ place. place.start < place.end) places
    → LieFrom (start + front) (undivided_places start front ++ reverse places) (front_of start front)
lie_below zero front [] rise up = omega arith
lie_below zero front (place ∷ places) rise up =
    let here = All-head (λ place. place.start < place.end) place places up in
    let after = All-tail (λ place. place.start < place.end) place places up in
    let rest = start_below place.end places 0 rise.1 (λ k d lt. let order = after k d lt in omega arith) in
    absurd (omega arith)
lie_below (suc before) zero places rise up = grind (arith, lie_reverse)
lie_below (suc before) (suc more) places rise up = (refl, lie_reverse 0 (suc before) places rise)

-- ---- what of a hole can't be divided

pub no_undivided : (P : Place → Type 0) (start front : ℕ) → front ≡ 0 → All P (undivided_places start front)
no_undivided P zero front none = All-nil P
no_undivided P (suc before) zero none = All-nil P
no_undivided P (suc before) (suc more) none = absurd (omega arith)

-- it stands as that
pub all_stand_undivided : (start front : ℕ) → All (λ place. place.standing ≡ Undivided) (undivided_places start front)
all_stand_undivided zero front = All-nil (λ place. place.standing ≡ Undivided)
all_stand_undivided (suc before) zero = All-nil (λ place. place.standing ≡ Undivided)
all_stand_undivided (suc before) (suc more) = grind (arith, All-cons, All-nil)

-- and there is nothing of it where the places cover the frame, and at each a slice stands
pub no_front : (start front : ℕ) → front_of start front ≡ 0 → All (λ place. IsSettledOrWoven place.standing) (undivided_places start front) → front ≡ 0
no_front zero front whole stand = whole
no_front (suc before) zero whole stand = refl
no_front (suc before) (suc more) whole stand = grind (arith, All-head)

pub whole_front : (start front : ℕ) → front ≡ 0 → front_of start front ≡ 0
whole_front zero front none = none
whole_front (suc before) front none = refl
