use Rattle.std.proofs.Common.{rules, ◌≡◌, ◌<◌, ℕ, Bool, true, false, Some, None, List, length, get_or, replicate, sym, ap, subst, ◌∙◌, arith}
use Rattle.std.proofs.lemmas.List.{length-map, get_or-map, length-replicate, with_items_is}
use Rattle.ffv1_range.specs.Tiles.{GridValue, grid_of, tile_count}
use Rattle.ffv1_range.specs.declared.head.SliceHeader.{SliceHeader}
use Rattle.ffv1_layout.specs.declared.layout.PlacedSlice.{PlacedSlice}
use Rattle.ffv1_layout.specs.Layout.{HasTile, AreApart, no_header, header_at, headers_of}
use Rattle.ffv1_layout.specs.Inner.Marking.{tile_mark, AreMarked, FitsGrid, AreMarksOf, IsFirstFree}
use Rattle.ffv1_layout.proofs.Marking.{no_marks, one_slice_marked, one_more_apart, overlaps, not_in_slice}
use Rattle.ffv1_layout.proofs.layout.check_tiles.Goals as goal

-- the header of a slice that was read by its place
here : (placed : List PlacedSlice) (n : ℕ) (d : PlacedSlice) → n < length placed → (get_or placed n d).header ≡ header_at (headers_of placed) n
here placed n d lt = sym (get_or-map (λ (slice : PlacedSlice). slice.header) placed n d no_header lt)

fits_same : (a a' t t' : ℕ) (h h' : SliceHeader) → a ≡ a' → t ≡ t' → h ≡ h' → FitsGrid a t h → FitsGrid a' t' h'
fits_same a a' t t' h h' same_a same_t same_h fits =
    subst (λ x. FitsGrid x t' h') same_a (subst (λ x. FitsGrid a x h') same_t (subst (λ x. FitsGrid a t x) same_h fits))

across_is : (across : ℕ) (g h : GridValue) → across ≡ g.across → g ≡ h → across ≡ h.across
across_is across g h is same = is ∙ ap (λ x. x.across) same

tile_same : (a a' : ℕ) (h h' : SliceHeader) (tile : ℕ) → a ≡ a' → h ≡ h' → HasTile a h tile → HasTile a' h' tile
tile_same a a' h h' tile same_a same_h has = subst (λ x. HasTile x h' tile) same_a (subst (λ x. HasTile a x tile) same_h has)

marked_same : (a a' : ℕ) (h h' : SliceHeader) (old new : List Bool) → a ≡ a' → h ≡ h' → AreMarked (HasTile a h) old new → AreMarked (HasTile a' h') old new
marked_same a a' h h' old new same_a same_h is =
    subst (λ x. AreMarked (HasTile x h') old new) same_a (subst (λ x. AreMarked (HasTile a x) old new) same_h is)

pub loop-place-init : goal.loop-place-init
loop-place-init c =
    let tiles = tile_count (grid_of c.args.recording.now.setup) in
    let all : c.in_ok-marks.marks.items ≡ replicate c.tiles.result false = search rules in
    let same : c.in_ok-marks.marks.items ≡ replicate tiles false =
    all ∙ ap (λ n. replicate n false) (c.tiles.ensures.value ∙ ap tile_count c.grid-grid.ensures) in
    rw same (record {
      long = length-replicate tiles false;
      marks = no_marks c.args.recording.now.setup.across (headers_of c.args.placed.now) tiles;
      apart = λ k j lt less shared. absurd (omega arith);
    })

pub is_free-requires : goal.is_free-requires
is_free-requires c =
    let placed = c.args.placed.now in
    let n = c.loop-place.place in
    fits_same _ _ _ _ _ _ (sym (c.across-across.ensures.value ∙ ap (λ g. g.across) c.grid-grid.ensures))
    (sym (ap length c.deref.ensures.value ∙ c.loop-place.invariant.long)) (sym (here placed n _ (omega arith)))
    (c.requires n (omega (arith, length-map placed (λ (slice : PlacedSlice). slice.header))))

pub returns-then-not-is_free-clause-err : goal.returns-then-not-is_free-clause-err
returns-then-not-is_free-clause-err c =
    let placed = c.args.placed.now in
    let n = c.loop-place.place in
    let taken = c.if-not-is_free.ensures in (
      omega (arith, length-map placed (λ (slice : PlacedSlice). slice.header)),
      c.loop-place.invariant.apart,
      overlaps _ _ n _ c.loop-place.invariant.marks (
        taken.0,
        tile_same _ _ _ _ taken.0 (across_is _ _ _ c.across-across.ensures.value c.grid-grid.ensures) (here placed n _ (omega arith)) taken.1,
        subst (λ marks. tile_mark marks taken.0 ≡ true) c.deref.ensures.value taken.2,
      ),
    )

pub mark_slice-requires : goal.mark_slice-requires
mark_slice-requires c =
    let placed = c.args.placed.now in
    let n = c.loop-place.place in
    fits_same _ _ _ _ _ _ (sym (c.across-across.ensures.value ∙ ap (λ g. g.across) c.grid-grid.ensures))
    (sym (ap length c.deref_mut.ensures.value ∙ c.loop-place.invariant.long)) (sym (here placed n _ (omega arith)))
    (c.requires n (omega (arith, length-map placed (λ (slice : PlacedSlice). slice.header))))

pub loop-place-preserved : goal.loop-place-preserved
loop-place-preserved c =
    let placed = c.args.placed.now in
    let n = c.loop-place.place in
    let new = c.mark_slice.new.marks in
    let across = across_is _ _ _ c.across-across.ensures.value c.grid-grid.ensures in
    let header = here placed n _ (omega arith) in
    let free = c.if-not-is_free.ensures in
    rw (with_items_is c.loop-place.marks new (c.mark_slice.ensures.same_length ∙ c.deref_mut.ensures.len)) (record {
      long = c.mark_slice.ensures.same_length ∙ ap length c.deref_mut.ensures.value ∙ c.loop-place.invariant.long;
      marks = one_slice_marked _ _ n _ c.loop-place.invariant.marks new
          (subst (λ old. AreMarked (HasTile c.args.recording.now.setup.across (header_at (headers_of placed) n)) old new) c.deref_mut.ensures.value
          (marked_same _ _ _ _ _ new across header c.mark_slice.ensures));
      apart = one_more_apart _ _ n _ c.loop-place.invariant.marks c.loop-place.invariant.apart
          (λ tile has. subst (λ marks. tile_mark marks tile ≡ false) c.deref.ensures.value (free tile (tile_same _ _ _ _ tile (sym across) (sym header) has)));
    })

pub returns-in-Some-clause-err : goal.returns-in-Some-clause-err
returns-in-Some-clause-err c =
    let placed = c.args.placed.now in
    let count = length-map placed (λ (slice : PlacedSlice). slice.header) in
    let end : c.loop-place.place ≡ length (headers_of placed) = omega (arith, count) in
    let inv = c.loop-place.invariant in
    let across = c.args.recording.now.setup.across in
    let free = subst (λ marks. IsFirstFree marks (Some c.in-Some.tile)) c.deref-2.ensures.value c.in-Some.ensures in
    let marks = subst (λ n. AreMarksOf across (headers_of placed) n c.loop-place.marks.items) end inv.marks in (
      subst (λ n. c.in-Some.tile < n) inv.long free.0,
      subst (AreApart across (headers_of placed)) end inv.apart,
      not_in_slice _ _ _ _ marks c.in-Some.tile free.1,
      λ lesser less. marks.only lesser (free.2 lesser less),
    )

pub returns-clause-ok : goal.returns-clause-ok
returns-clause-ok c =
    let placed = c.args.placed.now in
    let count = length-map placed (λ (slice : PlacedSlice). slice.header) in
    let end : c.loop-place.place ≡ length (headers_of placed) = omega (arith, count) in
    let inv = c.loop-place.invariant in
    let across = c.args.recording.now.setup.across in
    let free = subst (λ marks. IsFirstFree marks None) c.deref-2.ensures.value c.in-None.ensures in
    let marks = subst (λ n. AreMarksOf across (headers_of placed) n c.loop-place.marks.items) end inv.marks in
    record {
      apart = subst (AreApart across (headers_of placed)) end inv.apart;
      covered = λ tile lt. marks.only tile (free tile (subst (λ n. tile < n) (sym inv.long) lt));
    }
