-- The found slices of a payload, and those of an intact original.
use Rattle.std.proofs.Common.{◌≡◌, ℕ, suc, zero, ◌+◌, ◌-◌, ◌<◌, ◌≤◌, List, [], ◌∷◌, ◌++◌, Result, Ok, Err, Option, Some, None, refl, sym, ap, ◌∙◌, subst, arith, length, take, drop, get_or}
use Rattle.std.specs.Prelude.{◌==◌, Contains, slice_range}
use Rattle.std.specs.List.{AllByRecursion, filter_map, cons_option, flat_map}
use Rattle.std.proofs.lemmas.List.{take_all, get_or_default}
use Rattle.ffv1_range.specs.TileHeaders.{TileRules}
use Rattle.ffv1_slice.specs.Chain.{size_before, FooterGives, IsLinkOf, LinkValue, link_of}
use Rattle.ffv1_slice.specs.Walk.{links_of}
use Rattle.ffv1_slice.specs.Slices.{IsSliceOf, IsFoundIn, IsOriginal, slice_read, with_tile, slice_at, found_slices, FoundSlicesAreFound, OriginalIsFound}
use Rattle.ffv1_slice.specs.declared.slice.LinkFault.{LinkFault}
use Rattle.ffv1_slice.proofs.Links.{are_links, Contains-head, Contains-cons}
use Rattle.ffv1_slice.specs.Near.{starts_at}
use Rattle.ffv1_slice.proofs.Places.{joined, size_in, range_in, around, starts_next, FooterGivesAt, end_of_tile, tile_of_cut, first_tile}
use Rattle.ffv1_slice.proofs.SliceLaws.{slice_found, slice_run, one_tile}

-- ---- what a list keeps under a test

kept_at : {X Y : Type 0} (h : X → Option Y) (xs : List X) (k : ℕ) (x : X) (y : Y) → k < length xs → get_or xs k x ≡ x → h x ≡ Some y
    → Contains (filter_map h xs) y
kept_at h [] k x y l s e = absurd (omega arith)
kept_at h (a ∷ xs) zero x y l s e =
    subst (λ o. Contains (cons_option o (filter_map h xs)) y) (sym (ap h s ∙ e)) (Contains-head y (filter_map h xs))
kept_at h (a ∷ xs) (suc k) x y l s e =
    let rest = kept_at h xs k x y (omega arith) s e in
    elim (h a) as (λ o. Contains (cons_option o (filter_map h xs)) y) [ None ↦ rest | Some z ↦ Contains-cons z y (filter_map h xs) rest ]

pub Contains-filter_map : {X Y : Type 0} (h : X → Option Y) (xs : List X) (x : X) (y : Y) → Contains xs x → h x ≡ Some y → Contains (filter_map h xs) y
Contains-filter_map h xs x y c e = kept_at h xs c.0 x y c.1 c.2 e

-- an element of what is kept is of an element that was there
record IsKeptFrom {X Y : Type 0} (h : X → Option Y) (xs : List X) (y : Y) : Type 0 where
  from : X
  there : Contains xs from
  gives : h from ≡ Some y

kept_from : {X Y : Type 0} (h : X → Option Y) (xs : List X) (k : ℕ) (y : Y) → k < length (filter_map h xs) → get_or (filter_map h xs) k y ≡ y
    → IsKeptFrom h xs y
kept_from h [] k y l s = absurd (omega arith)
kept_from h (a ∷ xs) k y l s =
    elim (h a) as (λ o. h a ≡ o → k < length (cons_option o (filter_map h xs)) → get_or (cons_option o (filter_map h xs)) k y ≡ y → IsKeptFrom h (a ∷ xs) y) [
      | None ↦ λ e l s. let rest = kept_from h xs k y l s in record { from = rest.from; there = Contains-cons a rest.from xs rest.there; gives = rest.gives }
      | Some z ↦ λ e l s. first_or h a xs z k y e l s (λ j l s. kept_from h xs j y l s)
    ] refl l s
  where
    first_or : {X Y : Type 0} (h : X → Option Y) (a : X) (xs : List X) (z : Y) (k : ℕ) (y : Y) → h a ≡ Some z → k < length (z ∷ filter_map h xs)
        → get_or (z ∷ filter_map h xs) k y ≡ y
        → ((j : ℕ) → j < length (filter_map h xs) → get_or (filter_map h xs) j y ≡ y → IsKeptFrom h xs y) → IsKeptFrom h (a ∷ xs) y
    first_or h a xs z zero y e l s more = record { from = a; there = Contains-head a xs; gives = e ∙ ap Some s }
    first_or h a xs z (suc k) y e l s more =
        let rest = more k (omega arith) s in record { from = rest.from; there = Contains-cons a rest.from xs rest.there; gives = rest.gives }

all_of : {X : Type 0} (P : X → Type 0) (xs : List X) (k : ℕ) (x : X) → AllByRecursion P xs → k < length xs → get_or xs k x ≡ x → P x
all_of P [] k x h l s = absurd (omega arith)
all_of P (a ∷ xs) zero x h l s = subst P s h.0
all_of P (a ∷ xs) (suc k) x h l s = all_of P xs k x h.1 (omega arith) s

-- ---- the found slices are those that are found

with_tile_is : (bytes : List ℕ) (r : Result ℕ LinkFault) (tile : ℕ) (slice : List ℕ) → with_tile bytes r ≡ Some (tile, slice) → (r ≡ Ok tile) × (slice ≡ bytes)
with_tile_is bytes (Ok t) tile slice h = let same : ◌≡◌ {A = ℕ × List ℕ} (t, bytes) (tile, slice) = cc in (ap (λ z. Ok z.0) same, sym (ap (λ z. z.1) same))
with_tile_is bytes (Err e) tile slice h = absurd cc

IsLinkOfPayload : List ℕ → LinkValue → Type 0
IsLinkOfPayload payload link = (q : ℕ) × IsLinkOf payload link.start q × (link ≡ link_of payload link.start q)

pub found_from : (rules : TileRules) (payload : List ℕ) (tile : ℕ) (slice : List ℕ) → Contains (found_slices rules payload) (tile, slice)
    → IsFoundIn rules payload tile slice
unfolding found_slices IsLinkOfPayload
found_from rules payload tile slice h =
    let kept = kept_from (slice_at rules) (links_of payload) h.0 (tile, slice) h.1 h.2 in
    let link : IsLinkOfPayload payload kept.from = all_of (λ link. (q : ℕ) × IsLinkOf payload link.start q × (link ≡ link_of payload link.start q))
    (links_of payload) kept.there.0 kept.from (are_links payload).only kept.there.1 kept.there.2 in
    let parts = with_tile_is kept.from.bytes (slice_read rules kept.from.bytes (kept.from.start == 0)) tile slice kept.gives in
    record {
      start = kept.from.start;
      end = link.0;
      link = link.1;
      bytes = parts.1 ∙ ap (λ z. z.bytes) link.2;
      is_slice = subst (λ z. IsSliceOf rules z (kept.from.start == 0) tile) (sym parts.1)
          (slice_found rules kept.from.bytes (kept.from.start == 0) tile parts.0);
    }

pub found_to : (rules : TileRules) (payload : List ℕ) (tile : ℕ) (slice : List ℕ) → IsFoundIn rules payload tile slice
    → Contains (found_slices rules payload) (tile, slice)
unfolding found_slices
found_to rules payload tile slice h =
    let whole : IsSliceOf rules (slice_range payload h.start h.end) (h.start == 0) tile =
    subst (λ z. IsSliceOf rules z (h.start == 0) tile) h.bytes h.is_slice in
    Contains-filter_map (slice_at rules) (links_of payload) (link_of payload h.start h.end) (tile, slice) ((are_links payload).all h.start h.end h.link)
    (ap (with_tile (slice_range payload h.start h.end)) (slice_run rules (slice_range payload h.start h.end) (h.start == 0) tile whole)
    ∙ ap (λ z. Some (tile, z)) (sym h.bytes))

pub found_slices_are_found : FoundSlicesAreFound
found_slices_are_found rules payload tile slice = (found_from rules payload tile slice, found_to rules payload tile slice)

-- ---- the links of an original

module _ (rules : TileRules) (payload : List ℕ) (slices : List (List ℕ)) (original : IsOriginal rules payload slices) where
  slice_of_tile : (k : ℕ) → List ℕ
  slice_of_tile k = get_or slices k []

  is_slice_of_tile : (k : ℕ) → k < length slices → IsSliceOf rules (slice_of_tile k) (k == 0) k
  unfolding slice_of_tile
  is_slice_of_tile k h = original.each k [] h

  long_slice : (k : ℕ) → k < length slices → 8 ≤ length (slice_of_tile k)
  long_slice k h = (is_slice_of_tile k h).framed.footer

  around_tile : (k : ℕ) → k < length slices → payload ≡ joined (take k slices) ++ (slice_of_tile k ++ joined (drop (suc k) slices))
  unfolding slice_of_tile joined
  around_tile k h = original.joined ∙ around slices k [] h

  next_tile : (k : ℕ) → k < length slices → starts_at slices (k + 1) ≡ starts_at slices k + length (slice_of_tile k)
  unfolding slice_of_tile
  next_tile k h = starts_next slices k [] h

  -- the slice of tile k ends where that of tile k + 1 begins
  cut_of_tile : (k : ℕ) → k < length slices → FooterGives payload (starts_at slices k) (starts_at slices (k + 1))
  unfolding starts_at joined
  cut_of_tile k h =
      let size : size_before payload (starts_at slices k + length (slice_of_tile k)) ≡ length (slice_of_tile k) - 8 =
      ap (λ z. size_before z (starts_at slices k + length (slice_of_tile k))) (around_tile k h)
      ∙ size_in (joined (take k slices)) (slice_of_tile k) (joined (drop (suc k) slices)) (long_slice k h) ∙ (is_slice_of_tile k h).framed.size in
      let long : 8 ≤ length (slice_of_tile k) = long_slice k h in
      subst (λ z. FooterGives payload (starts_at slices k) z) (sym (next_tile k h)) (omega (arith, size))

  pub bytes_of_tile : (k : ℕ) → k < length slices → slice_range payload (starts_at slices k) (starts_at slices (k + 1)) ≡ get_or slices k []
  unfolding starts_at joined slice_of_tile
  bytes_of_tile k h =
      ap (λ z. slice_range payload (starts_at slices k) z) (next_tile k h)
      ∙ ap (λ z. slice_range z (starts_at slices k) (starts_at slices k + length (slice_of_tile k))) (around_tile k h)
      ∙ range_in (joined (take k slices)) (slice_of_tile k) (joined (drop (suc k) slices))

  pub original_cut : FooterGivesAt payload slices
  unfolding starts_at slice_of_tile
  original_cut = record {
    long = long_slice;
    whole = ap (λ z. length (flat_map (λ slice. slice) z)) (take_all (length slices) slices (omega arith)) ∙ ap length (sym original.joined);
    cut = cut_of_tile;
  }

-- ---- what is found of a payload that is cut as an original is

module _ (rules : TileRules) (original copy : List ℕ) (slices : List (List ℕ)) (is : IsOriginal rules original slices) (is_cut : FooterGivesAt copy slices) where
  -- a slice stands at its tile's places, and is of that tile where what stands there is the original's
  pub found_at : (tile : ℕ) (slice : List ℕ) → IsFoundIn rules copy tile slice
      → (k : ℕ) × (k < length slices) × (slice ≡ slice_range copy (starts_at slices k) (starts_at slices (k + 1))) × IsSliceOf rules slice (k == 0) tile
  found_at tile slice h =
      let at = tile_of_cut copy slices is_cut h.start h.end h.link.is_end h.link.cut in
      let is_first : (h.start == 0) ≡ (at.0 == 0) = ap (λ z. z == 0) at.2 ∙ first_tile copy slices is_cut at.0 at.1 in (
        at.0,
        at.1,
        h.bytes ∙ ap (λ z. slice_range copy z h.end) at.2 ∙ ap (λ z. slice_range copy (starts_at slices at.0) z) at.3,
        subst (λ z. IsSliceOf rules slice z tile) is_first h.is_slice,
      )

  pub own_tile : (k tile : ℕ) (slice : List ℕ) → k < length slices → slice ≡ get_or slices k [] → IsSliceOf rules slice (k == 0) tile → (tile ≡ k)
      × (slice ≡ get_or slices tile slice)
  own_tile k tile slice lt same is_slice =
      let own : IsSliceOf rules (get_or slices k []) (k == 0) tile = subst (λ z. IsSliceOf rules z (k == 0) tile) same is_slice in
      let tiles : tile ≡ k = one_tile rules (get_or slices k []) (k == 0) tile k own (is.each k [] lt) in
      (tiles, same ∙ get_or_default slices k [] slice lt ∙ ap (λ z. get_or slices z slice) (sym tiles))

  -- and where the original's slice stands at its places, it is found
  pub found_there : (tile : ℕ) (slice : List ℕ) → tile < length slices → slice ≡ get_or slices tile slice
      → slice_range copy (starts_at slices tile) (starts_at slices (tile + 1)) ≡ slice → IsFoundIn rules copy tile slice
  found_there tile slice lt same intact =
      record {
        start = starts_at slices tile;
        end = starts_at slices (tile + 1);
        link = record { is_end = end_of_tile copy slices is_cut (tile + 1) (omega arith); cut = is_cut.cut tile lt };
        bytes = sym intact;
        is_slice = subst (λ z. IsSliceOf rules z (starts_at slices tile == 0) tile) (sym same)
            (subst (λ z. IsSliceOf rules (get_or slices tile slice) z tile) (sym (first_tile copy slices is_cut tile lt)) (is.each tile slice lt));
      }

module _ (rules : TileRules) (payload : List ℕ) (slices : List (List ℕ)) (original : IsOriginal rules payload slices) where
  original_from : (tile : ℕ) (slice : List ℕ) → IsFoundIn rules payload tile slice → (tile < length slices) × (slice ≡ get_or slices tile slice)
  original_from tile slice h =
      let at = found_at rules payload payload slices original (original_cut rules payload slices original) tile slice h in
      let own = own_tile rules payload payload slices original (original_cut rules payload slices original) at.0 tile slice at.1
      (at.2 ∙ bytes_of_tile rules payload slices original at.0 at.1) at.3 in
      (subst (λ z. z < length slices) (sym own.0) at.1, own.1)

  original_to : (tile : ℕ) (slice : List ℕ) → (tile < length slices) × (slice ≡ get_or slices tile slice) → IsFoundIn rules payload tile slice
  original_to tile slice h =
      found_there rules payload payload slices original (original_cut rules payload slices original) tile slice h.0 h.1
      (bytes_of_tile rules payload slices original tile h.0 ∙ get_or_default slices tile [] slice h.0 ∙ sym h.1)

pub original_is_found : OriginalIsFound
original_is_found rules payload slices original tile slice = (
  original_from rules payload slices original tile slice,
  original_to rules payload slices
      original tile slice,
)
