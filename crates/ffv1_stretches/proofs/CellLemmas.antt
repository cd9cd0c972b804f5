-- What copies have of a stretch, copy by copy.
use Rattle.std.proofs.Common.{◌≡◌, ℕ, zero, suc, ◌+◌, ◌<◌, List, [], ◌∷◌, ◌++◌, Option, Some, None, Bor, length, get_or, take, map, refl, sym, ap, ◌∙◌, subst, arith}
use Rattle.std.specs.Prelude.{All, Contains}
use Rattle.std.proofs.lemmas.List.Elements.{All-nil, All-cons, All-head, All-tail, All-contains}
use Rattle.std.proofs.lemmas.List.{take_more, length-map}
use Rattle.ffv1_stretches.specs.declared.copy.CopyReader.{CopyReader}
use Rattle.ffv1_stretches.specs.Cells.{versions_in}
use Rattle.ffv1_stretches.specs.Inner.CellSteps.{cell_now, IsAsLong, held_cell, held_cells}
use Rattle.ffv1_stretches.proofs.WordLemmas.{now_of, now_at}

pub held_at : (size : ℕ) (places : List (Option ℕ)) (rooms : List (List ℕ)) (i : ℕ) → i < length places → i < length rooms
    → get_or (held_cells size places rooms) i None ≡ held_cell size (get_or places i None) (get_or rooms i [])
held_at size [] rooms i lt within = absurd (omega arith)
held_at size (p ∷ places) [] i lt within = absurd (omega arith)
held_at size (p ∷ places) (r ∷ rooms) zero lt within = refl
held_at size (p ∷ places) (r ∷ rooms) (suc i) lt within = held_at size places rooms i (omega arith) (omega arith)

pub length-held : (size : ℕ) (places : List (Option ℕ)) (rooms : List (List ℕ)) → length places ≡ length rooms
    → length (held_cells size places rooms) ≡ length places
length-held size [] rooms long = refl
length-held size (p ∷ places) [] long = absurd (omega arith)
length-held size (p ∷ places) (r ∷ rooms) long = omega (arith, length-held size places rooms (omega arith))

-- one cell more
pub held_more : (size : ℕ) (places : List (Option ℕ)) (rooms : List (List ℕ)) (i : ℕ) (cells : List (Option (List ℕ))) (cell : Option (List ℕ))
    → i < length places → length places ≡ length rooms → cells ≡ take i (held_cells size places rooms)
    → cell ≡ held_cell size (get_or places i None) (get_or rooms i []) → cells ++ cell ∷ [] ≡ take (i + 1) (held_cells size places rooms)
held_more size places rooms i cells cell lt long so_far is =
    ap (λ front. front ++ cell ∷ []) so_far
    ∙ ap (λ c. take i (held_cells size places rooms) ++ c ∷ []) (is ∙ sym (held_at size places rooms i lt (omega arith)))
    ∙ sym (take_more (held_cells size places rooms) i None (omega (arith, length-held size places rooms long)))

pub versions_in-append : (xs ys : List (Option (List ℕ))) → versions_in (xs ++ ys) ≡ versions_in xs ++ versions_in ys
versions_in-append [] ys = refl
versions_in-append (None ∷ xs) ys = versions_in-append xs ys
versions_in-append (Some x ∷ xs) ys = ap (λ more. x ∷ more) (versions_in-append xs ys)

pub cell_at : (cells : List (Option (Bor (List ℕ)))) (i : ℕ) (d : Option (Bor (List ℕ))) → i < length cells
    → get_or (map cell_now cells) i None ≡ cell_now (get_or cells i d)
cell_at [] i d lt = absurd (omega arith)
cell_at (c ∷ cells) zero d lt = refl
cell_at (c ∷ cells) (suc i) d lt = cell_at cells i d (omega arith)

-- the versions of one cell more
pub versions_more : (cells : List (Option (Bor (List ℕ)))) (i : ℕ) (cell : Option (Bor (List ℕ))) (d : Option (Bor (List ℕ))) → i < length cells
    → get_or cells i d ≡ cell → versions_in (take (i + 1) (map cell_now cells)) ≡ versions_in (take i (map cell_now cells)) ++ versions_in (cell_now cell ∷ [])
versions_more cells i cell d lt is =
    ap versions_in (take_more (map cell_now cells) i None (omega (arith, length-map cells cell_now))
    ∙ ap (λ c. take i (map cell_now cells) ++ c ∷ []) (cell_at cells i d lt ∙ ap cell_now is))
    ∙ versions_in-append (take i (map cell_now cells)) (cell_now cell ∷ [])

-- ---- the rooms of copies

abbrev pub room_of : {S : Type 0} → CopyReader S → List ℕ
room_of copy = copy.room.items

pub room_at : {S : Type 0} (copies : List (CopyReader S)) (i : ℕ) (copy : CopyReader S) → i < length copies → copy ≡ get_or copies i copy
    → get_or (map room_of copies) i [] ≡ copy.room.items
room_at [] i copy lt is = absurd (omega arith)
room_at (c ∷ copies) zero copy lt is = ap room_of (sym is)
room_at (c ∷ copies) (suc i) copy lt is = room_at copies i copy (omega arith) is

-- ---- the versions among the cells

pub there_among : (cells : List (Option (List ℕ))) (i : ℕ) (version : List ℕ) → get_or cells i None ≡ Some version → Contains (versions_in cells) version
there_among [] i version is = absurd (let no : None ≡ Some version = is in cc)
there_among (None ∷ cells) zero version is = absurd (let no : None ≡ Some version = is in cc)
there_among (Some v ∷ cells) zero version is = (0, omega arith, let same : v ≡ version = cc in same)
there_among (None ∷ cells) (suc i) version is = there_among cells i version is
there_among (Some v ∷ cells) (suc i) version is =
    let rest = there_among cells i version is in
    (suc rest.0, omega (arith, rest.1), rest.2)

long_among : (size : ℕ) (cells : List (Option (List ℕ))) → All (IsAsLong size) cells → All (λ version. length version ≡ size) (versions_in cells)
long_among size [] long = All-nil (λ version. length version ≡ size)
long_among size (None ∷ cells) long = long_among size cells (All-tail (IsAsLong size) None cells long)
long_among size (Some v ∷ cells) long =
    All-cons (λ version. length version ≡ size) v (versions_in cells) (All-head (IsAsLong size) (Some v) cells long)
    (long_among size cells (All-tail (IsAsLong size) (Some v) cells long))

-- what mending asks of the versions as they are lent, with that of a copy that has one
pub record AreMendable (size : ℕ) (versions : List (Bor (List ℕ))) (from : List ℕ) : Type 0 where
  pub some : 0 < length versions
  pub lengths : All (λ version. length version.now ≡ length from) versions
  pub there : Contains (map now_of versions) from
  pub long : length from ≡ size

pub mendable : (size : ℕ) (cells : List (Option (List ℕ))) (i : ℕ) (from : List ℕ) (versions : List (Bor (List ℕ))) → map now_of versions ≡ versions_in cells
    → get_or cells i None ≡ Some from → All (IsAsLong size) cells → AreMendable size versions from
mendable size cells i from versions are from_is long =
    let there = there_among cells i from from_is in
    let all = long_among size cells long in
    let own : length from ≡ size = All-contains (λ version. length version ≡ size) (versions_in cells) from all there in
    let count = length-map versions now_of in
    record {
      some = omega (arith, there.1, ap length are, count);
      lengths = λ k d lt.
          let few : k < length (map now_of versions) = omega (arith, count, lt) in
          let here : length (get_or (map now_of versions) k []) ≡ size = subst (All (λ version. length version ≡ size)) (sym are) all k [] few in
          ap length (sym (now_at versions k d lt)) ∙ here ∙ sym own;
      there = subst (λ vs. Contains vs from) (sym are) there;
      long = own;
    }
