-- What the crates above use of slices: their footer, their tile, and what is found of a link.
use Rattle.std.proofs.Common.{◌≡◌, ℕ, ◌*◌, ◌-◌, ◌<◌, ◌≤◌, Bool, true, false, List, length, Ok, Err, Some, None, refl, sym, ap, subst, arith, length-take}
use Rattle.std.specs.Prelude.{◌==◌}
use Rattle.std.specs.List.{filter_map}
use Rattle.std.proofs.lemmas.Bool.{eq-eqb, ne_eqb}
use Rattle.ffv1_range.specs.TileHeaders.{TileRules}
use Rattle.ffv1_range.proofs.TileLaws.{number_below}
use Rattle.ffv1_range.proofs.TileHeaderFound.{tile_filled}
use Rattle.ffv1_slice.specs.Chain.{LinkValue}
use Rattle.ffv1_slice.specs.Walk.{links_of}
use Rattle.ffv1_slice.specs.Slices.{content_of, IsSliceOf, slice_read, with_tile, slice_at, found_slices}
use Rattle.ffv1_slice.proofs.SliceLaws.{slice_found, slice_run}

-- a slice has its footer
pub slice_footer : (rules : TileRules) (bytes : List ℕ) (first : Bool) (tile : ℕ) → IsSliceOf rules bytes first tile → 8 ≤ length bytes
slice_footer rules bytes first tile is = is.framed.footer

pub slice_in_grid : (rules : TileRules) (bytes : List ℕ) (first : Bool) (tile : ℕ) → IsSliceOf rules bytes first tile → tile < rules.limits.across * rules.limits.down
slice_in_grid rules bytes first tile is =
    let below = number_below rules.limits.across rules.limits.down _ _ is.content.column is.content.row in
    subst (λ t. t < rules.limits.across * rules.limits.down) (sym is.content.of_tile) below

-- a keyframe bit is read exactly at tile 0
pub slice_first : (rules : TileRules) (bytes : List ℕ) (first : Bool) (tile : ℕ) → IsSliceOf rules bytes first tile → first ≡ (tile == 0)
slice_first rules bytes true tile is = sym (eq-eqb tile 0 (is.content.first_tile.0 refl))
slice_first rules bytes false tile is =
    sym (ne_eqb tile 0 (λ zero. let e : false ≡ true = is.content.first_tile.1 zero in cc))

-- a slice has its header before its footer
pub slice_filled : (rules : TileRules) (bytes : List ℕ) (first : Bool) (tile : ℕ) → IsSliceOf rules bytes first tile → 8 < length bytes
slice_filled rules bytes first tile is =
    omega (arith, is.framed.footer, tile_filled rules (content_of bytes) first tile is.content, length-take (length bytes - 8) bytes)

-- what is a slice is found
pub slice_at-found : (rules : TileRules) (link : LinkValue) (tile : ℕ) → IsSliceOf rules link.bytes (link.start == 0) tile
    → slice_at rules link ≡ Some (tile, link.bytes)
slice_at-found rules link tile is = ap (with_tile link.bytes) (slice_run rules link.bytes (link.start == 0) tile is)

-- what is none is not found
pub slice_at-none : (rules : TileRules) (link : LinkValue) → ((tile : ℕ) → IsSliceOf rules link.bytes (link.start == 0) tile → ⊥) → slice_at rules link ≡ None
slice_at-none rules link none =
    elim (slice_read rules link.bytes (link.start == 0)) as (λ r. slice_read rules link.bytes (link.start == 0) ≡ r → with_tile link.bytes r ≡ None)
    [ Ok tile ↦ λ e. absurd (none tile (slice_found rules link.bytes (link.start == 0) tile e)) | Err fault ↦ λ e. refl ] refl

-- the found slices are those of the links, in their order
pub found_slices-links : (rules : TileRules) (payload : List ℕ) → found_slices rules payload ≡ filter_map (slice_at rules) (links_of payload)
unfolding found_slices
found_slices-links rules payload = refl
