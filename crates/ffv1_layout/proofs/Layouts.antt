-- Slices that are cut, placed and judged together make a layout.
use Rattle.std.proofs.Common.{◌≡◌, ℕ, ◌+◌, ◌*◌, ◌<◌, ◌≤◌, ◌⊎◌, Bool, List, length, sym, subst, ◌∙◌, inl, inr}
use Rattle.std.proofs.Math.Nat.{mul-le-mul_right, mul_comm}
use Rattle.std.proofs.lemmas.List.{length-map}
use Rattle.ffv1_range.specs.Setup.{RecordingValue}
use Rattle.ffv1_range.specs.Tiles.{grid_of, tile_count}
use Rattle.ffv1_range.specs.SliceHeader.{slice_header_with}
use Rattle.ffv1_range.specs.declared.head.SliceHeader.{SliceHeader}
use Rattle.ffv1_layout.specs.Cuts.{AreSlicesOf}
use Rattle.ffv1_layout.specs.Layout.{HasSliceHeader, headers_of, AreApart, IsInSlice, IsLayoutOf, IsFirstLayoutFault}
use Rattle.ffv1_layout.specs.Inner.Placing.{ArePlaced, IsFirstUnplaced}
use Rattle.ffv1_layout.specs.Inner.Marking.{FitsGrid, HaveFit, AreTilesOf, IsTileFault}
use Rattle.ffv1_layout.specs.declared.layout.PlacedSlice.{PlacedSlice}
use Rattle.ffv1_layout.specs.declared.fault.LayoutFault.{LayoutFault}
use Rattle.ffv1_layout.specs.declared.fault.LayoutFault.TheVariants.{Chain, Slice, Overlap, Uncovered, Memory}

-- what a header names lies in the grid
header_fits : (r : RecordingValue) (slice : List ℕ) (first : Bool) (header : SliceHeader) → HasSliceHeader r slice first header
    → FitsGrid r.setup.across (tile_count (grid_of r.setup)) header
header_fits r slice first header has =
    let is = has.is_header in
    let h = slice_header_with r.has_alpha header.key is.fields in
    subst (FitsGrid r.setup.across (tile_count (grid_of r.setup))) {x = h} (sym is.values) (record {
      columns = is.fits.columns;
      rows = subst (λ n. (h.y + h.h) * r.setup.across ≤ n) (mul_comm r.setup.down r.setup.across) (mul-le-mul_right r.setup.across is.fits.rows);
    })

module _ (r : RecordingValue) (payload : List ℕ) (slices : List (List ℕ)) (are : AreSlicesOf r payload slices) where
  pub unplaced_fault : (fault : LayoutFault) → IsFirstUnplaced r slices fault → IsFirstLayoutFault r payload fault
  unplaced_fault Chain is = absurd is
  unplaced_fault (Slice place cause) is = (slices, is.0, are, is.1, is.2, is.3)
  unplaced_fault (Overlap place) is = absurd is
  unplaced_fault (Uncovered tile) is = absurd is
  unplaced_fault Memory is = tt

  module _ (placed : List PlacedSlice) (all : ArePlaced r slices (length slices) placed) where
    count : length (headers_of placed) ≡ length slices
    count = length-map placed (λ (slice : PlacedSlice). slice.header) ∙ all.long

    pub all_fit : HaveFit r.setup.across (tile_count (grid_of r.setup)) (headers_of placed)
    all_fit place lt = header_fits r _ _ _ (all.headers place (subst (λ n. place < n) count lt))

    pub tile_fault : (fault : LayoutFault) → IsTileFault r.setup.across (tile_count (grid_of r.setup)) (headers_of placed) fault
        → IsFirstLayoutFault r payload fault
    tile_fault Chain is = absurd is
    tile_fault (Slice place cause) is = absurd is
    tile_fault (Overlap place) is = (slices, headers_of placed, are, subst (λ n. place < n) count is.0, all.headers, is.1, is.2)
    tile_fault (Uncovered tile) is = (
      slices,
      headers_of placed,
      are,
      is.0,
      all.headers,
      subst (AreApart r.setup.across (headers_of placed)) count is.1,
      subst (λ n. IsInSlice r.setup.across (headers_of placed) n tile → ⊥) count is.2,
      λ lesser less. subst (λ n. IsInSlice r.setup.across (headers_of placed) n lesser) count (is.3 lesser less),
    )
    tile_fault Memory is = tt

    pub layout_is : AreTilesOf r.setup.across (tile_count (grid_of r.setup)) (headers_of placed) → IsLayoutOf r payload placed
    layout_is tiles = record {
      slices = slices;
      laid_out = record {
        are_slices = are;
        count = count;
        each = all.headers;
        apart = subst (AreApart r.setup.across (headers_of placed)) count tiles.apart;
        covered = λ tile lt. subst (λ n. IsInSlice r.setup.across (headers_of placed) n tile) count (tiles.covered tile lt);
      };
      contents = all.contents;
      statuses = all.statuses;
    }

pub cut_fault : (r : RecordingValue) (payload : List ℕ) (fault : LayoutFault)
    → (fault ≡ Memory) ⊎ ((fault ≡ Chain) × ((slices : List (List ℕ)) → AreSlicesOf r payload slices → ⊥)) → IsFirstLayoutFault r payload fault
cut_fault r payload fault (inl memory) = subst (IsFirstLayoutFault r payload) (sym memory) tt
cut_fault r payload fault (inr chain) = subst (IsFirstLayoutFault r payload) (sym chain.0) chain.1
