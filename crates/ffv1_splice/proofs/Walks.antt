-- A division as it is found, place by place from an end, and as it is stated, place by place of the whole payload.
use Rattle.ffv1_splice.proofs.Common.{◌≡◌, ℕ, ◌+◌, ◌-◌, ◌≤◌, List, [], ◌∷◌, ◌++◌, length, get_or, take, drop, refl, sym, ◌∙◌, subst, arith, take-append-drop, All, Contains, slice_range, drop-append_seam, drop-append-le, take-append-le, take_all, take-take, length-append, length-drop, length-take-le, All-nil, All-cons, All-head, All-tail, cases_lt, AllReach, IsLeast, StandsAs, IsStop, SplicedValue, LieFrom, IsDivisionOf, Standing, Settled, Woven, Voted, Repaired, Disputed, Missing, Undivided, Place}
use Rattle.ffv1_splice.proofs.FirstSlices.{woven_below, woven_size}
use Rattle.ffv1_splice.proofs.Versions.{vote_size, repair_size}
use Rattle.ffv1_splice.proofs.PlaceSteps.{cut_below, claim_below, piece_size, gap_size, least_size, unwoven_weave}

-- What stands before an end. Where no place ends, it is one front that can't be divided; else the place that ends there, and what stands
-- before its start.
pub data IsSpliceBefore (copies : List (List ℕ)) : ℕ → List Place → ℕ → List ℕ → Type 0 where
  stops : {end : ℕ} {bytes : List ℕ} → IsStop copies end → IsLeast copies 0 end bytes → IsSpliceBefore copies end [] end bytes
  goes : {start end front : ℕ} {standing : Standing} {places : List Place} {before : List ℕ} (bytes : List ℕ) → StandsAs copies start end bytes standing
      → IsSpliceBefore copies start places front before
      → IsSpliceBefore copies end (record { start = start; end = end; standing = standing } ∷ places) front (before ++ bytes)

-- ---- parts of bytes

slice-front : (before bytes : List ℕ) (start end : ℕ) → end ≤ length before → slice_range (before ++ bytes) start end ≡ slice_range before start end
slice-front before bytes start end h = grind (arith, cases_lt, drop-append-le, take-append-le, length-drop)

slice-back : (before bytes : List ℕ) (start end : ℕ) → length before ≡ start → start + length bytes ≡ end → slice_range (before ++ bytes) start end ≡ bytes
slice-back before bytes start end s e = grind (arith, drop-append_seam, take_all)

slice-take : (bytes : List ℕ) (count start end : ℕ) → end ≤ count → count ≤ length bytes
    → slice_range (take count bytes) start end ≡ slice_range bytes start end
slice-take bytes count start end e c =
    cc (slice-front (take count bytes) (drop count bytes) start end (omega (arith, length-take-le count bytes c)), take-append-drop count bytes)

-- ---- how long a place is

pub stands_below : (copies : List (List ℕ)) (start end : ℕ) (bytes : List ℕ) (standing : Standing) → StandsAs copies start end bytes standing → start + 8 ≤ end
stands_below copies start end bytes Settled h = cut_below h.there.copy start end h.there.cut
stands_below copies start end bytes (Woven count) h = woven_below copies start end bytes count h
stands_below copies start end bytes (Voted count) h = claim_below copies start end (unwoven_weave copies start end h.unwoven).1.claim.there
stands_below copies start end bytes (Repaired count) h = claim_below copies start end h.missed.claim.there
stands_below copies start end bytes Disputed h = claim_below copies start end h.1.claim.there
stands_below copies start end bytes Missing h = claim_below copies start end h.1.claim.there
stands_below copies start end bytes Undivided h = absurd h

module _ (copies : List (List ℕ)) (copy : List ℕ) (there : Contains copies copy) where
  pub stands_size : (start end : ℕ) (bytes : List ℕ) (standing : Standing) → AllReach copies end → StandsAs copies start end bytes standing
      → start + length bytes ≡ end
  stands_size start end bytes Settled reach h = piece_size copies end (record { start = start; bytes = bytes }) reach h.there
  stands_size start end bytes (Woven count) reach h = woven_size copies start end bytes count copy there reach h
  stands_size start end bytes (Voted count) reach h = vote_size copies start end bytes count reach h
  stands_size start end bytes (Repaired count) reach h = repair_size copies start end bytes count reach h
  stands_size start end bytes Disputed reach h = gap_size copies start end bytes reach h.1
  stands_size start end bytes Missing reach h = gap_size copies start end bytes reach h.1
  stands_size start end bytes Undivided reach h = absurd h

pub reach_less : (copies : List (List ℕ)) (end start : ℕ) → start ≤ end → AllReach copies end → AllReach copies start
reach_less copies end start below reach copy there = let far = reach copy there in omega arith

-- ---- places that lie end to end

pub front_below : (end : ℕ) (places : List Place) (front : ℕ) → All (λ place. place.start ≤ place.end) places → LieFrom end places front → front ≤ end
front_below end [] front up lie = omega arith
front_below end (place ∷ places) front up lie =
    grind (arith, All-tail, All-head, front_below place.start places front (All-tail (λ place. place.start ≤ place.end) place places up) lie.1)

pub ends_below : (end : ℕ) (places : List Place) (front : ℕ) → All (λ place. place.start ≤ place.end) places → LieFrom end places front
    → All (λ place. place.end ≤ end) places
ends_below end [] front up lie = All-nil (λ place. place.end ≤ end)
ends_below end (place ∷ places) front up lie =
    grind (arith, All-head, All-tail, All-cons, ends_below place.start places front (All-tail (λ place. place.start ≤ place.end) place places up) lie.1)

-- ---- from the one to the other

-- what is stated of the bytes before an end
pub record IsTallyBefore (copies : List (List ℕ)) (end : ℕ) (places : List Place) (front : ℕ) (payload : List ℕ) : Type 0 where
  pub size : length payload ≡ end
  pub lie : LieFrom end places front
  pub stand : All (λ place. StandsAs copies place.start place.end (slice_range payload place.start place.end) place.standing) places
  pub stop : IsStop copies front
  pub before : IsLeast copies 0 front (take front payload)

module _ (copies : List (List ℕ)) where
  all_upright : (payload : List ℕ) (places : List Place)
      → All (λ place. StandsAs copies place.start place.end (slice_range payload place.start place.end) place.standing) places
      → All (λ place. place.start ≤ place.end) places
  all_upright payload places stand k d lt = grind (arith, stands_below)

  -- some copy has what can't be divided
  copy_before : (end : ℕ) (places : List Place) (front : ℕ) (payload : List ℕ) → IsSpliceBefore copies end places front payload
      → (copy : List ℕ) × Contains copies copy
  copy_before end places front payload (stops stop least) = (least.copy, least.there)
  copy_before end places front payload (goes {start = start} {places = more} {before = before} bytes stands h) = copy_before start more front before h

  -- the same bytes stand alike
  stands_alike : (a b : List ℕ) (place : Place) → slice_range a place.start place.end ≡ slice_range b place.start place.end
      → StandsAs copies place.start place.end (slice_range b place.start place.end) place.standing
      → StandsAs copies place.start place.end (slice_range a place.start place.end) place.standing
  stands_alike a b place same stands = subst (λ z. StandsAs copies place.start place.end z place.standing) (sym same) stands

  pub claim_before : (end : ℕ) (places : List Place) (front : ℕ) (payload : List ℕ) → AllReach copies end → IsSpliceBefore copies end places front payload
      → IsTallyBefore copies end places front payload
  claim_before end places front payload reach (stops {bytes = bytes} stop least) =
      let size = least_size copies 0 end bytes reach (omega arith) least in
      grind (arith, All-nil, take_all)
  claim_before end places front payload reach (goes {start = start} {standing = standing} {places = more} {before = before} bytes stands h) =
      let copy = copy_before start more front before h in
      let long = stands_size copies copy.0 copy.1 start end bytes standing reach stands in
      let rest = claim_before start more front before (reach_less copies end start (omega arith) reach) h in
      let size = rest.size in
      let up = all_upright before more rest.stand in
      let within = ends_below start more front up rest.lie in
      let far = front_below start more front up rest.lie in
      record {
        size = length-append before bytes ∙ omega arith;
        lie = (refl, rest.lie);
        stand = All-cons (λ place. StandsAs copies place.start place.end (slice_range (before ++ bytes) place.start place.end) place.standing)
            (record { start = start; end = end; standing = standing }) more
            (subst (λ z. StandsAs copies start end z standing) (sym (slice-back before bytes start end size long)) stands)
            (λ k d lt. let inside = within k d lt in stands_alike (before ++ bytes) before (get_or more k d)
            (slice-front before bytes (get_or more k d).start (get_or more k d).end (omega arith)) (rest.stand k d lt));
        stop = rest.stop;
        before = subst (IsLeast copies 0 front) (sym (take-append-le front before bytes (omega arith))) rest.before;
      }

  pub splice_before : (end : ℕ) (places : List Place) (front : ℕ) (payload : List ℕ) → AllReach copies end → IsTallyBefore copies end places front payload
      → IsSpliceBefore copies end places front payload
  splice_before end [] front payload reach claim =
      let here : end ≡ front = claim.lie in
      let all : take front payload ≡ payload = take_all front payload (omega arith) in
      subst (λ e. IsSpliceBefore copies e [] front payload) (sym here) (stops claim.stop (subst (IsLeast copies 0 front) all claim.before))
  splice_before end (place ∷ places) front payload reach claim =
      let size = claim.size in
      let ends : place.end ≡ end = claim.lie.0 in
      let stands : StandsAs copies place.start place.end (slice_range payload place.start place.end) place.standing =
      All-head (λ place. StandsAs copies place.start place.end (slice_range payload place.start place.end) place.standing) place places claim.stand in
      let below = stands_below copies place.start place.end (slice_range payload place.start place.end) place.standing stands in
      let rest = All-tail (λ place. StandsAs copies place.start place.end (slice_range payload place.start place.end) place.standing) place places claim.stand in
      let up = all_upright payload places rest in
      let within = ends_below place.start places front up claim.lie.1 in
      let far = front_below place.start places front up claim.lie.1 in
      let tail : take (place.end - place.start) (drop place.start payload) ≡ drop place.start payload =
      take_all (place.end - place.start) (drop place.start payload) (omega (arith, length-drop place.start payload)) in
      let whole : take place.start payload ++ slice_range payload place.start place.end ≡ payload = cc (take-append-drop place.start payload) in
      let before = splice_before place.start places front (take place.start payload) (reach_less copies end place.start (omega arith) reach) (record {
        size = length-take-le place.start payload (omega arith);
        lie = claim.lie.1;
        stand = λ k d lt. let inside = within k d lt in stands_alike (take place.start payload) payload (get_or places k d)
            (slice-take payload place.start (get_or places k d).start (get_or places k d).end (omega arith) (omega arith)) (rest k d lt);
        stop = claim.stop;
        before = rw (take-take front place.start payload far) claim.before;
      }) in
      rw (← ends) (rw (← whole) (goes (slice_range payload place.start place.end) stands before))

  -- the division of copies of one length
  pub division_of : (whole : ℕ) (places : List Place) (front : ℕ) (payload : List ℕ) → ((copy : List ℕ) → Contains copies copy → length copy ≡ whole)
      → IsSpliceBefore copies whole places front payload → IsDivisionOf copies (record { places = places; front = front; payload = payload })
  division_of whole places front payload one h =
      let claim = claim_before whole places front payload (λ copy there. omega (arith, one copy there)) h in
      grind arith

  pub division_walk : (spliced : SplicedValue) → IsDivisionOf copies spliced
      → IsSpliceBefore copies (length spliced.payload) spliced.places spliced.front spliced.payload
  division_walk spliced h = grind (arith, splice_before)
