-- The splice, place after place from the end.
use Rattle.ffv1_splice.proofs.Common.{◌≡◌, ℕ, ◌+◌, ◌<◌, ◌≤◌, List, [], ◌∷◌, ◌++◌, Bor, length, take, drop, get_or, map, sym, ap, ◌∙◌, arith, drop-append_seam, append-nil, append_assoc, length-append, length-drop, length-take-le, IsLeast, StandsAs, IsStop, written, length_at, HasOneLength, Place, value_at, length-values_of}
use Rattle.ffv1_splice.proofs.Walks.{IsSpliceBefore}
use Rattle.ffv1_splice.proofs.Walks.IsSpliceBefore.{stops, goes}

-- ---- bytes written over others

pub length-written : (payload : List ℕ) (start : ℕ) (bytes : List ℕ) → start + length bytes ≤ length payload
    → length (written payload start bytes) ≡ length payload
length-written payload start bytes h = grind (arith, length-take-le, length-append, length-drop)

pub drop-written : (payload : List ℕ) (start : ℕ) (bytes : List ℕ) → start + length bytes ≤ length payload
    → drop start (written payload start bytes) ≡ bytes ++ drop (start + length bytes) payload
drop-written payload start bytes h =
    let front : length (take start payload) ≡ start = length-take-le start payload (omega arith) in
    ap (λ n. drop n (written payload start bytes)) (sym front) ∙ drop-append_seam (take start payload) (bytes ++ drop (start + length bytes) payload)

-- ---- a turn

-- what stands before an end is spliced with the places and the bytes after it
abbrev pub Continues : List (List ℕ) → (whole end : ℕ) → List Place → List ℕ → Type 0
Continues copies whole end after bytes =
    (places : List Place) (front : ℕ) (before : List ℕ) → IsSpliceBefore copies end places front before
    → IsSpliceBefore copies whole (after ++ places) front (before ++ bytes)

module _ (copies : List (List ℕ)) where
  pub continues_more : (whole end : ℕ) (after : List Place) (place : Place) (bytes payload : List ℕ) → place.end ≡ end → place.start + length bytes ≡ end
      → end ≤ length payload → StandsAs copies place.start end bytes place.standing → Continues copies whole end after (drop end payload)
      → Continues copies whole place.start (after ++ place ∷ []) (drop place.start (written payload place.start bytes))
  continues_more whole end after place bytes payload ends size within stands h places front before rest = grind (arith, goes, drop-written, append_assoc)

  -- where it stops
  pub continues_end : (whole end : ℕ) (after : List Place) (bytes payload : List ℕ) → length bytes ≡ end → end ≤ length payload → IsStop copies end
      → IsLeast copies 0 end bytes → Continues copies whole end after (drop end payload)
      → IsSpliceBefore copies whole after end (written payload 0 bytes)
  continues_end whole end after bytes payload size within stop least h =
      let all : IsSpliceBefore copies whole (after ++ []) end (bytes ++ drop end payload) = h [] end bytes (stops stop least) in
      let zero : 0 + length bytes ≡ end = omega arith in
      grind (arith, written, append-nil)

-- ---- copies of one length

module _ (copies : List (Bor (List ℕ))) (some : 0 < length copies) (one : HasOneLength (map (λ copy. copy.now) copies)) where
  pub length_of_first : (i : ℕ) (d : Bor (List ℕ)) → i < length copies → length (get_or copies i d).now ≡ length_at (map (λ copy. copy.now) copies) 0
  length_of_first i d h = sym (ap length (value_at copies i d [] h)) ∙ one i (omega (arith, length-values_of copies))
