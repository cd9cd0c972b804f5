-- Copies of an original, in which each of its slices is found, hold exactly its slices.
use Rattle.std.proofs.Common.{◌≡◌, ℕ, zero, suc, ◌+◌, ◌<◌, true, List, [], ◌∷◌, length, map, get_or, Contains, refl, sym, ap, ◌∙◌, subst, arith}
use Rattle.std.specs.List.{list_any, flat_map, enumerate_from}
use Rattle.std.specs.Ordering.{eq_by_cmp, is_eq}
use Rattle.std.specs.Cmp.{IsTotalOrder, tied_itself, both_ways, Equal-is}
use Rattle.std.specs.FinMap.{IsAntisymmetric}
use Rattle.std.specs.declared.cmp.Ordering.{Ordering}
use Rattle.std.proofs.lemmas.List.Folds.{list_any-append}
use Rattle.std.proofs.lemmas.List.{get_or_default}
use Rattle.std.proofs.lemmas.Bool.{or_left, or_right}
use Rattle.sha2.specs.Sha256.{sha256}
use Rattle.ffv1_range.specs.TileHeaders.{TileRules}
use Rattle.ffv1_slice.specs.Slices.{IsFoundIn, found_slices}
use Rattle.ffv1_slice.proofs.NearLaws.{near_found}
use Rattle.ffv1_slice.proofs.FoundLaws.{found_from, found_to}
use Rattle.ffv1_holding.specs.Sets as set
use Rattle.ffv1_holding.specs.SliceOrder.{Entry, Origin, entry_cmp, entries_total, entries_antisymmetric, origins_total, origins_antisymmetric}
use Rattle.ffv1_holding.specs.Reels.{Reel}
use Rattle.ffv1_holding.specs.Contents.{Contents, slices_of_copies, origins_of_copy, origins_of_copies, holding_of}
use Rattle.ffv1_holding.specs.Originals.{AreCopiesOfSlices, AreNear, HoldsExactly}
use Rattle.ffv1_holding.specs.Laws.{HeldIsFound, OriginIsACopy}
use Rattle.ffv1_holding.proofs.EntrySteps.{or_cases}

module _ {K : Type 0} {R : K → K → Ordering} (o : IsTotalOrder R) (same : IsAntisymmetric R) where
  -- what ties with an item is that item
  tied_is : (q e : K) → eq_by_cmp R q e ≡ true → q ≡ e
  tied_is q e tie = same q e ((Equal-is (R q e)).0 tie)

  tied_self : (q : K) → eq_by_cmp R q q ≡ true
  tied_self q = ap is_eq (tied_itself o q)

  -- an item is listed where one that ties with it is
  pub listed : (q : K) (es : List K) → list_any (eq_by_cmp R q) es ≡ true → Contains es q
  listed q [] any = absurd (cc)
  listed q (e ∷ es) any =
      or_cases (eq_by_cmp R q e) (list_any (eq_by_cmp R q) es) (Contains (e ∷ es) q) any
      (λ tie. (0, omega arith, sym (tied_is q e tie)))
      (λ rest. let there = listed q es rest in (suc there.0, omega (arith, there.1), there.2))

  pub ties : (q : K) (es : List K) → Contains es q → list_any (eq_by_cmp R q) es ≡ true
  ties q [] (k, lt, is) = absurd (omega arith)
  ties q (e ∷ es) (zero, lt, is) = or_left _ _ (ap (eq_by_cmp R q) is ∙ tied_self q)
  ties q (e ∷ es) (suc k, lt, is) = or_right _ _ (ties q es (k, omega arith, is))

  module _ (gives : List ℕ → List K) where
    -- what is held is given by some copy
    found_in : (copies : List (List ℕ)) (q : K) → list_any (eq_by_cmp R q) (flat_map gives copies) ≡ true → (copy : List ℕ)
        × Contains copies copy × Contains (gives copy) q
    found_in [] q any = absurd (cc)
    found_in (copy ∷ copies) q any =
        or_cases (list_any (eq_by_cmp R q) (gives copy)) (list_any (eq_by_cmp R q) (flat_map gives copies)) _
        (sym (list_any-append (eq_by_cmp R q) (gives copy) (flat_map gives copies)) ∙ any)
        (λ here. (copy, (0, omega arith, refl), listed q (gives copy) here))
        (λ later. let rest = found_in copies q later in (rest.0, (suc rest.1.0, omega (arith, rest.1.1), rest.1.2), rest.2))

    -- and what is given by some copy is held
    is_held : (copies : List (List ℕ)) (q : K) (copy : List ℕ) → Contains copies copy → Contains (gives copy) q
        → list_any (eq_by_cmp R q) (flat_map gives copies) ≡ true
    is_held [] q copy (k, lt, is) found = absurd (omega arith)
    is_held (first ∷ copies) q copy (zero, lt, is) found =
        list_any-append (eq_by_cmp R q) (gives first) (flat_map gives copies)
        ∙ or_left _ _ (ties q (gives first) (subst (λ (c : List ℕ). Contains (gives c) q) (sym is) found))
    is_held (first ∷ copies) q copy (suc k, lt, is) found =
        list_any-append (eq_by_cmp R q) (gives first) (flat_map gives copies)
        ∙ or_right _ _ (is_held copies q copy (k, omega arith, is) found)

-- the numbered slices
numbered : (slices : List (List ℕ)) (first : ℕ) (q : Entry) → list_any (eq_by_cmp entry_cmp q) (enumerate_from first slices) ≡ true → (i : ℕ)
    × (i < length slices) × ((d : List ℕ) → q ≡ (first + i, get_or slices i d))
numbered [] first q any = absurd (cc)
numbered (s ∷ slices) first q any =
    or_cases (eq_by_cmp entry_cmp q (first, s)) (list_any (eq_by_cmp entry_cmp q) (enumerate_from (first + 1) slices)) _ any
    (λ tie. (
      0,
      omega arith,
      λ d. tied_is entries_total entries_antisymmetric q (first, s) tie
          ∙ ap (λ n. let e : Entry = (n, s) in e) {x = first} {y = first + 0} (omega arith),
    ))
    (λ later. let rest = numbered slices (first + 1) q later in (
      suc rest.0,
      omega (arith, rest.1),
      λ d. rest.2 d
          ∙ ap (λ n. let e : Entry = (n, get_or slices rest.0 d) in e) {x = first + 1 + rest.0} {y = first + suc rest.0} (omega arith),
    ))

numbered_at : (slices : List (List ℕ)) (first i : ℕ) (d : List ℕ) → i < length slices
    → list_any (eq_by_cmp entry_cmp (first + i, get_or slices i d)) (enumerate_from first slices) ≡ true
numbered_at [] first i d lt = absurd (omega arith)
numbered_at (s ∷ slices) first zero d lt = or_left _ _ (ap (λ n. eq_by_cmp entry_cmp (n, s) (first, s)) {x = first + 0} {y = first} (omega arith)
    ∙ tied_self entries_total entries_antisymmetric (first, s))
numbered_at (s ∷ slices) first (suc i) d lt =
    or_right _ _ (ap (λ n. list_any (eq_by_cmp entry_cmp (n, get_or slices i d)) (enumerate_from (first + 1) slices)) {x = first + suc i} {y = first + 1 + i}
    (omega arith) ∙ numbered_at slices (first + 1) i d (omega arith))

pub exactly_held : (reel : Reel) (slices copies : List (List ℕ)) → AreCopiesOfSlices reel.rules slices copies → HoldsExactly (holding_of reel copies) slices
exactly_held reel slices copies are =
    set.same_set entries_total entries_antisymmetric _ _ (λ q.
    set.contains-from_list entries_total (flat_map (found_slices reel.rules) copies) q
    ∙ both_ways _ _
    (λ held.
    let at = found_in entries_total entries_antisymmetric (found_slices reel.rules) copies q held in
    let own = are.only at.0 q.0 q.1 at.1 (found_from reel.rules at.0 q.0 q.1 at.2) in
    ap (λ (b : List ℕ). list_any (eq_by_cmp entry_cmp (q.0, b)) (enumerate_from 0 slices)) own.1
    ∙ ap (λ n. list_any (eq_by_cmp entry_cmp (n, get_or slices q.0 q.1)) (enumerate_from 0 slices)) {x = q.0} {y = 0 + q.0} (omega arith)
    ∙ numbered_at slices 0 q.0 q.1 own.0)
    (λ there.
    let at = numbered slices 0 q there in
    let found = are.all at.0 q.1 at.1 in
    let is : q ≡ (at.0, get_or slices at.0 q.1) = at.2 q.1 ∙ ap (λ n. let e : Entry = (n, get_or slices at.0 q.1) in e) {x = 0 + at.0} {y = at.0}
    (omega arith) in
    is_held entries_total entries_antisymmetric (found_slices reel.rules) copies q found.0 found.1
    (subst (λ (e : Entry). Contains (found_slices reel.rules found.0) e) (sym is)
    (found_to reel.rules found.0 at.0 (get_or slices at.0 q.1) found.2)))
    ∙ sym (set.contains-from_list entries_total (enumerate_from 0 slices) q))

-- what is held of copies is what is found in one of them
pub held_is_found : HeldIsFound
held_is_found rules copies tile slice = (from, to)
  where
    from : set.contains (slices_of_copies rules copies) (tile, slice) ≡ true → (copy : List ℕ) × Contains copies copy × IsFoundIn rules copy tile slice
    from held =
        let at = found_in entries_total entries_antisymmetric (found_slices rules) copies (tile, slice)
        (sym (set.contains-from_list entries_total (flat_map (found_slices rules) copies) (tile, slice)) ∙ held) in
        (at.0, at.1, found_from rules at.0 tile slice at.2)

    to : (copy : List ℕ) × Contains copies copy × IsFoundIn rules copy tile slice → set.contains (slices_of_copies rules copies) (tile, slice) ≡ true
    to found =
        set.contains-from_list entries_total (flat_map (found_slices rules) copies) (tile, slice)
        ∙ is_held entries_total entries_antisymmetric (found_slices rules) copies (tile, slice) found.0 found.1 (found_to rules found.0 tile slice found.2)

-- what is found in near copies is the original's, and where each tile is intact in one of them, all of it is found
pub near_are_copies : (rules : TileRules) (original : List ℕ) (slices copies : List (List ℕ)) → AreNear rules original slices copies
    → AreCopiesOfSlices rules slices copies
near_are_copies rules original slices copies are = record {
  only = λ copy tile bytes among found.
      let is = (near_found rules original slices copy (are.near copy among) tile bytes).0 found in (is.0, is.1);
  all = λ tile d lt.
      let at = are.intact tile d lt in
      let own : get_or slices tile d ≡ get_or slices tile (get_or slices tile d) = get_or_default slices tile d (get_or slices tile d) lt in
      (at.0, at.1, (near_found rules original slices at.0 (are.near at.0 at.1) tile (get_or slices tile d)).1 (lt, own, at.2));
}

pub near_held : (reel : Reel) (original : List ℕ) (slices copies : List (List ℕ)) → AreNear reel.rules original slices copies
    → HoldsExactly (holding_of reel copies) slices
near_held reel original slices copies are = exactly_held reel slices copies (near_are_copies reel.rules original slices copies are)

-- a holding of their slices
pub near_exact : (h : Contents) (original : List ℕ) (slices copies : List (List ℕ)) → AreNear h.reel.rules original slices copies
    → h.slices ≡ slices_of_copies h.reel.rules copies → HoldsExactly h slices
near_exact h original slices copies are is = is ∙ near_held h.reel original slices copies are

contains-map : {X Y : Type 0} (f : X → Y) (xs : List X) (y : Y) → Contains (map f xs) y → (x : X) × Contains xs x × (y ≡ f x)
contains-map f [] y (k, lt, is) = absurd (omega arith)
contains-map f (x ∷ xs) y (zero, lt, is) = (x, (0, omega arith, refl), sym is)
contains-map f (x ∷ xs) y (suc k, lt, is) =
    let rest = contains-map f xs y (k, omega arith, is) in (rest.0, (suc rest.1.0, omega (arith, rest.1.1), rest.1.2), rest.2)

map-contains : {X Y : Type 0} (f : X → Y) (xs : List X) (x : X) → Contains xs x → Contains (map f xs) (f x)
map-contains f [] x (k, lt, is) = absurd (omega arith)
map-contains f (z ∷ xs) x (zero, lt, is) = (0, omega arith, ap f is)
map-contains f (z ∷ xs) x (suc k, lt, is) = let rest = map-contains f xs x (k, omega arith, is) in (suc rest.0, omega (arith, rest.1), rest.2)

module _ (rules : TileRules) (copies : List (List ℕ)) (tile : ℕ) (slice digest : List ℕ) where
  abbrev origin : Origin
  origin = ((tile, slice), digest)

  -- an origin is the digest of a copy in which the slice is found
  origin_from : set.contains (origins_of_copies rules copies) origin ≡ true → (copy : List ℕ) × Contains copies copy × IsFoundIn rules copy tile slice
      × (digest ≡ sha256 copy)
  origin_from there =
      let gives = origins_of_copy rules in
      let at = found_in origins_total origins_antisymmetric gives copies origin
      (sym (set.contains-from_list origins_total (flat_map gives copies) origin) ∙ there) in
      let own = contains-map (λ (e : Entry). let x : Origin = (e, sha256 at.0) in x) (found_slices rules at.0) origin at.2 in
      let entry : (tile, slice) ≡ own.0 = ap (λ (x : Origin). x.0) own.2 in (
        at.0,
        at.1,
        found_from rules at.0 tile slice (subst (λ (e : Entry). Contains (found_slices rules at.0) e) (sym entry) own.1),
        ap (λ (x : Origin). x.1) own.2,
      )

  origin_to : (copy : List ℕ) × Contains copies copy × IsFoundIn rules copy tile slice × (digest ≡ sha256 copy)
      → set.contains (origins_of_copies rules copies) origin ≡ true
  origin_to found =
      let gives = origins_of_copy rules in
      let here = map-contains (λ (e : Entry). let x : Origin = (e, sha256 found.0) in x) (found_slices rules found.0) (tile, slice)
      (found_to rules found.0 tile slice found.2) in
      set.contains-from_list origins_total (flat_map gives copies) origin
      ∙ is_held origins_total origins_antisymmetric gives copies origin found.0 found.1
      (subst (λ (d : List ℕ). let x : Origin = ((tile, slice), d) in Contains (gives found.0) x) (sym found.3) here)

-- the origins of what is held of copies are the digests of those in which it is found
pub origin_is_a_copy : OriginIsACopy
origin_is_a_copy rules copies tile slice digest = (origin_from rules copies tile slice digest, origin_to rules copies tile slice digest)
