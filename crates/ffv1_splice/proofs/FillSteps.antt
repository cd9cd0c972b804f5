-- The frame that is filled: what is settled down and up, and what the hole is divided to.
use Rattle.ffv1_splice.proofs.Common.{◌≡◌, ℕ, zero, suc, ◌+◌, ◌-◌, ◌≤◌, List, Bor, ◌++◌, length, take, drop, refl, sym, ap, ◌∙◌, subst, arith, take-append-drop, All, Contains, reverse, slice_range, drop-append_seam, length-append, length-drop, length-take-le, take-append-le, drop-drop, take-put_mid, take-put_mid_below, between-put_mid, drop-put_mid, put_mid, length-range, values_of, each_value, versions_at, SplicedValue, LieFrom, IsWalkDown, IsBound, IsWalkUp, Crossing, IsWalkAcross, crossing_places, IsDivisionOf, IsSpliceOf, hole_places, front_of, Place}
use Rattle.ffv1_splice.proofs.Versions.{version_of}
use Rattle.ffv1_splice.proofs.BoundSteps.{bound_within}
use Rattle.ffv1_splice.proofs.Walks.{stands_below, front_below, ends_below}
use Rattle.ffv1_splice.proofs.SettlingSteps.{take_earlier, down_kept}
use Rattle.ffv1_splice.proofs.Crossings.{walk_kept, crossings_order, crossings_kept}

-- ---- how long a division is

module _ (copies : List (List ℕ)) (divided : SplicedValue) (is : IsDivisionOf copies divided) where
  division_upright : All (λ place. place.start ≤ place.end) divided.places
  division_upright k d lt = grind (arith, stands_below)

  pub division_within : All (λ place. place.start ≤ place.end × place.end ≤ length divided.payload) divided.places
  division_within k d lt = grind (arith, division_upright, ends_below)

  pub front_within : divided.front ≤ length divided.payload
  front_within = front_below (length divided.payload) divided.places divided.front division_upright is.lie

-- of copies cut to a range, as long as the range
pub division_long : (copies : List (List ℕ)) (start end whole : ℕ) (divided : SplicedValue) → ((copy : List ℕ) → Contains copies copy → length copy ≡ whole)
    → start ≤ end → end ≤ whole → IsDivisionOf (versions_at copies start end) divided → length divided.payload ≡ end - start
division_long copies start end whole divided one order within is =
    let of = version_of copies start end is.before.copy is.before.there in
    sym (is.one_length is.before.copy is.before.there) ∙ ap length of.2 ∙ length-range of.0 start end order (omega arith)

-- ---- the payload of the frame

pub front_is : (start front result : ℕ) → (start ≡ 0 → result ≡ front) → ((start ≡ 0 → ⊥) → result ≡ 0) → result ≡ front_of start front
front_is zero front result here else = here refl
front_is (suc before) front result here else = else (λ same. absurd (omega (arith, same)))

pub length-below : (down up : List ℕ) (bound end : ℕ) → length up ≡ bound → bound ≤ end → end ≤ length down → end ≤ length (up ++ drop bound down)
length-below down up bound end front below within = grind (arith, length-append, length-drop)

-- where a hole lies, between what was settled down and what was settled up
pub record IsHole (down up : List ℕ) (start bound end : ℕ) : Type 0 where
  pub low : start ≤ bound
  pub below : bound ≤ end
  pub within : end ≤ length down
  pub long : length (take bound down) ≡ bound
  pub front : length up ≡ bound

pub is_hole : (copies : List (List ℕ)) (down up : List ℕ) (start bound end : ℕ) → IsBound copies end bound → end ≤ length down
    → length up ≡ length (take bound down) → start ≤ length up → IsHole down up start bound end
is_hole copies down up start bound end room within same low = grind (arith, bound_within, length-take-le)

-- where its places lie, and their front
pub hole_within : (copies : List (Bor (List ℕ))) (payload down up : List ℕ) (start bound end : ℕ) (places : List Place) (front : ℕ) (hole : List ℕ)
    (versions : List (List ℕ)) → IsHole down up start bound end → All (λ copy. length copy.now ≡ length payload) copies → length down ≡ length payload
    → versions ≡ versions_at (values_of copies) start end → IsDivisionOf versions (record { places = places; front = front; payload = hole })
    → All (λ place. place.start ≤ place.end × start + place.end ≤ end) places × (start + front ≤ end)
hole_within copies payload down up start bound end places front hole versions at one same are is =
    let all : List (List ℕ) = versions_at (values_of copies) start end in
    let divided : SplicedValue = record { places = places; front = front; payload = hole } in
    let order : start ≤ end = let low = at.low in let below = at.below in omega arith in
    let here : IsDivisionOf all divided = subst (λ vs. IsDivisionOf vs divided) are is in
    let within : end ≤ length payload = let reach = at.within in omega arith in
    let long : length hole ≡ end - start =
    division_long (values_of copies) start end (length payload) divided (each_value copies (λ copy. length copy ≡ length payload) one) order within here in (
      λ k d lt. let place = division_within all divided here k d lt in (place.0, let inside = place.1 in omega arith),
      let low = front_within all divided here in omega arith,
    )

-- what was settled down, over its front what was settled up, and over what lies between what the hole has
module _ (down up hole : List ℕ) (start bound end : ℕ) (order : start ≤ bound) (below : bound ≤ end) (within : end ≤ length down)
    (front : length up ≡ bound) (long : length hole ≡ end - start) where
  filled_after : drop end (put_mid start (end - start) (up ++ drop bound down) hole) ≡ drop end down
  filled_after =
      let far = length-below down up bound end front below within in
      let on : end ≡ bound + (end - bound) = omega arith in
      drop-put_mid start (end - start) (up ++ drop bound down) hole end (omega arith) (omega arith) long
      ∙ ap (λ n. drop n (up ++ drop bound down)) on ∙ sym (drop-drop (end - bound) bound (up ++ drop bound down))
      ∙ ap (drop (end - bound)) (ap (λ n. drop n (up ++ drop bound down)) (sym front) ∙ drop-append_seam up (drop bound down))
      ∙ drop-drop (end - bound) bound down ∙ ap (λ n. drop n down) (sym on)

  filled_before : take start (put_mid start (end - start) (up ++ drop bound down) hole) ≡ take start up
  filled_before = grind (arith, length-below, take-put_mid_below, take-append-le)

  filled_hole : slice_range (put_mid start (end - start) (up ++ drop bound down) hole) start end ≡ hole
  filled_hole = grind (arith, length-below, between-put_mid)

  length-filled : length (put_mid start (end - start) (up ++ drop bound down) hole) ≡ length down
  length-filled =
      let far = length-below down up bound end front below within in
      let all : List ℕ = put_mid start (end - start) (up ++ drop bound down) hole in
      let under : take end all ≡ take start (up ++ drop bound down) ++ hole = grind (arith, take-put_mid) in
      let parts = ap length under ∙ length-append (take start (up ++ drop bound down)) hole in
      let first = length-take-le start (up ++ drop bound down) (omega arith) in
      let whole = ap length (sym (take-append-drop end all)) ∙ length-append (take end all) (drop end all) in
      let after = ap length filled_after in
      let ends = ap length (sym (take-append-drop end down)) ∙ length-append (take end down) (drop end down) in
      let taken = length-take-le end down within in
      omega arith

  pub filled_splice : (copies : List (List ℕ)) (above under hole_list : List Place) (crossings : List Crossing) (floor hole_front : ℕ)
      → ((copy : List ℕ) → Contains copies copy → length copy ≡ length down)
      → IsWalkDown copies down above end → IsBound copies end bound → IsWalkUp copies bound up 0 under floor
      → IsWalkAcross copies bound up floor crossings start
      → IsDivisionOf (versions_at copies start end) (record { places = hole_list; front = hole_front; payload = hole })
      → (places : List Place) (front_there : ℕ)
      → places ≡ above ++ (hole_places start (record { places = hole_list; front = hole_front; payload = hole }) ++ reverse (under ++ crossing_places crossings))
      → front_there ≡ front_of start hole_front
      → IsSpliceOf copies (record {
        places = places;
        front = front_there;
        payload = put_mid start (end - start) (up ++ drop bound down) hole;
      })
  filled_splice copies above under hole_list crossings floor hole_front one walk_down room walk_up across divided places front_there are is = record {
    above = above;
    below = under;
    crossings = crossings;
    floor = floor;
    start = start;
    end = end;
    bound = bound;
    hole = record { places = hole_list; front = hole_front; payload = hole };
    one_length = λ copy there. one copy there ∙ sym length-filled;
    down = record {
      lie = subst (λ n. LieFrom n above end) (sym length-filled) walk_down.lie;
      settled = down_kept copies down (put_mid start (end - start) (up ++ drop bound down) hole) above (length down) end walk_down.lie walk_down.settled
          (sym filled_after);
      stop = walk_down.stop;
    };
    room = room;
    up = walk_kept copies bound up (put_mid start (end - start) (up ++ drop bound down) hole) 0 under floor
        (take_earlier up (put_mid start (end - start) (up ++ drop bound down) hole) floor start (crossings_order copies bound up floor crossings start across.are)
        (sym filled_before)) walk_up;
    across = grind (arith, crossings_kept, put_mid, filled_before);
    divided = divided;
    bytes = sym filled_hole;
    places = are;
    front = is;
  }
