-- Slices: what a link has to be beyond its place in the chain (RFC 9043, sections 4.5, 4.6 and 4.9).
use Rattle.std.specs.Prelude.{ℕ, ◌-◌, ◌*◌, ◌<◌, ◌≤◌, ◌≡◌, ◌==◌, ◌&&◌, nat_le, ◌↔◌, Bool, List, length, take, slice_range, slice_index_or, Result, Ok, Err, Option, Some, None, Contains, if◌then◌else◌}
use Rattle.std.specs.List.{filter_map, flat_map}
use Rattle.ffv1_bits.specs.Limits.{payload_limit}
use Rattle.ffv1_bits.specs.Bits.{bits_of}
use Rattle.ffv1_bits.specs.Parity.{remainder_of, PassesParity}
use Rattle.ffv1_range.specs.TileHeaders.{TileRules, IsTileContent, tile_read}
use Rattle.ffv1_range.specs.declared.head.HeadFault.{HeadFault}
use Rattle.ffv1_slice.specs.Chain.{size_before, IsFramed, IsLinkOf, LinkValue}
use Rattle.ffv1_slice.specs.Walk.{links_of}
use Rattle.ffv1_slice.specs.declared.slice.LinkFault.{LinkFault}
use Rattle.ffv1_slice.specs.declared.slice.LinkFault.TheVariants.{Parity, Head}

-- what of a slice stands before its footer
abbrev pub content_of : List ℕ → List ℕ
content_of slice = take (length slice - 8) slice

-- The bytes are a slice of the tile: framed by their footer, they pass their parity, and their content begins with a
-- header of that tile. `first` says that they stand at the payload's start, and then they are of tile 0.
pub record IsSliceOf (rules : TileRules) (slice : List ℕ) (first : Bool) (tile : ℕ) : Type 0 where
  pub passes : PassesParity slice
  pub framed : IsFramed slice
  pub content : IsTileContent rules (content_of slice) first tile

-- The slice is found in the payload: one of its links is a slice of the tile.
pub record IsFoundIn (rules : TileRules) (payload : List ℕ) (tile : ℕ) (slice : List ℕ) : Type 0 where
  pub start : ℕ
  pub end : ℕ
  pub link : IsLinkOf payload start end
  pub bytes : slice ≡ slice_range payload start end
  pub is_slice : IsSliceOf rules slice (start == 0) tile

-- A payload of one slice a tile, joined in tile order.
pub record IsOriginal (rules : TileRules) (payload : List ℕ) (slices : List (List ℕ)) : Type 0 where
  pub count : length slices ≡ rules.limits.across * rules.limits.down
  pub joined : payload ≡ flat_map (λ slice. slice) slices
  pub short : length payload ≤ payload_limit
  pub each : (tile : ℕ) (d : List ℕ) → tile < length slices → IsSliceOf rules (slice_index_or slices tile d) (tile == 0) tile

-- ---- the same as functions

-- the tile of a content, or its fault
abbrev pub link_tile : Result ℕ HeadFault → Result ℕ LinkFault
link_tile (Ok tile) = Ok tile
link_tile (Err fault) = Err (Head fault)

-- whether bytes have their footer, and nothing is left of them
abbrev pub is_passing_slice : List ℕ → Bool
is_passing_slice slice = nat_le 8 (length slice) && ((size_before slice (length slice) == length slice - 8) && (remainder_of (bits_of slice) == 0))

-- the tile of which bytes are a slice, or the first fault
unfoldable pub slice_read : TileRules → List ℕ → Bool → Result ℕ LinkFault
slice_read rules slice first =
    if is_passing_slice slice then link_tile (tile_read rules (content_of slice) first) else Err Parity

-- a tile and its slice, where there is one
abbrev pub with_tile : List ℕ → Result ℕ LinkFault → Option (ℕ × List ℕ)
with_tile slice (Ok tile) = Some (tile, slice)
with_tile slice (Err fault) = None

-- the tile of a link, with its bytes
abbrev pub slice_at : TileRules → LinkValue → Option (ℕ × List ℕ)
slice_at rules link = with_tile link.bytes (slice_read rules link.bytes (link.start == 0))

-- the slices of a payload with their tiles, from its end
unfoldable pub found_slices : TileRules → List ℕ → List (ℕ × List ℕ)
found_slices rules payload = filter_map (slice_at rules) (links_of payload)

-- ---- laws

-- Bytes are read as a slice of a tile exactly where they are one.
abbrev pub SliceReadIsSlice : Type 0
SliceReadIsSlice = (rules : TileRules) (slice : List ℕ) (first : Bool) (tile : ℕ) → (slice_read rules slice first ≡ Ok tile) ↔ IsSliceOf rules slice first tile

-- The found slices are exactly those that are found.
abbrev pub FoundSlicesAreFound : Type 0
FoundSlicesAreFound =
    (rules : TileRules) (payload : List ℕ) (tile : ℕ) (slice : List ℕ)
    → Contains (found_slices rules payload) (tile, slice) ↔ IsFoundIn rules payload tile slice

-- In an intact original exactly its slices are found.
abbrev pub OriginalIsFound : Type 0
OriginalIsFound =
    (rules : TileRules) (payload : List ℕ) (slices : List (List ℕ)) → IsOriginal rules payload slices → (tile : ℕ) (slice : List ℕ)
    → IsFoundIn rules payload tile slice ↔ ((tile < length slices) × (slice ≡ slice_index_or slices tile slice))
