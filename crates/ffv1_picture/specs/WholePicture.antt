-- The picture of a frame from those of its tiles (RFC 9043, sections 4.6 and 4.7: each slice has the samples of its tile; own:
-- what stands where the chroma places of tiles overlap, or lie in no tile).
use Rattle.std.specs.Prelude.{ℕ, ◌+◌, ◌-◌, ◌*◌, ◌&&◌, nat_le, nat_lt, Bool, List, [], ◌∷◌, map, Option, Some, None, unwrap_or, slice_index, slice_index_or, if◌then◌else◌}
use Rattle.std.specs.List.{flat_map, range_with_len}
use Rattle.ffv1_range.specs.Tiles.{GridValue, plane_count, plane_rect, frame_rect}
use Rattle.ffv1_range.specs.declared.grid.TileRect.{TileRect}

-- the samples of each plane, row by row: Y, and with chroma Cb and Cr
abbrev pub Planes : Type 0
Planes = List (List ℕ)

-- whether the rectangle has the place x, y
abbrev pub covers : TileRect → ℕ → ℕ → Bool
covers r x y = (nat_le r.x x && nat_lt x (r.x + r.w)) && (nat_le r.y y && nat_lt y (r.y + r.h))

-- the sample at the place, of those of a rectangle
abbrev pub sample_in : TileRect → List ℕ → ℕ → ℕ → ℕ
sample_in r samples x y = slice_index samples ((y - r.y) * r.w + (x - r.x))

-- the sample of a tile's picture at a place of a plane, where the tile covers it
abbrev pub sample_of_tile : GridValue → ℕ → ℕ → ℕ → ℕ → Option Planes → Option ℕ
sample_of_tile g plane x y tile None = None
sample_of_tile g plane x y tile (Some planes) =
    if covers (plane_rect g tile plane) x y then Some (sample_in (plane_rect g tile plane) (slice_index_or planes plane []) x y) else None

-- the first of two, or the second where there is none
abbrev pub or_else : Option ℕ → Option ℕ → Option ℕ
or_else (Some a) b = Some a
or_else None b = b

-- The sample of the greatest tile that covers the place and has a picture. The pictures are those of the tiles from `tile` on,
-- `None` for a tile that has none.
unfoldable pub greatest_sample : GridValue → ℕ → ℕ → ℕ → ℕ → List (Option Planes) → Option ℕ
greatest_sample g plane x y tile [] = None
greatest_sample g plane x y tile (picture ∷ pictures) =
    or_else (greatest_sample g plane x y (tile + 1) pictures) (sample_of_tile g plane x y tile picture)

-- that, or 128 where no such tile covers the place
abbrev pub whole_sample : GridValue → List (Option Planes) → ℕ → ℕ → ℕ → ℕ
whole_sample g pictures plane x y = unwrap_or (greatest_sample g plane x y 0 pictures) 128

-- a plane of the frame, row by row
unfoldable pub whole_plane : GridValue → List (Option Planes) → ℕ → List ℕ
whole_plane g pictures plane =
    flat_map (λ y. map (λ x. whole_sample g pictures plane x y) (range_with_len 0 (frame_rect g plane).w)) (range_with_len 0 (frame_rect g plane).h)

-- all planes of the frame
abbrev pub whole_picture : GridValue → List (Option Planes) → Planes
whole_picture g pictures = map (whole_plane g pictures) (range_with_len 0 (plane_count g))
