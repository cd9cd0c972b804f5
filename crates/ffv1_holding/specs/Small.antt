-- What joining copies gives, said of any function that gives a content its tile (own): what is restored from the slices found in copies of an
-- original is the original. Of a slice only its footer and its parity are read here (RFC 9043, section 4.9), and no header.
use Rattle.std.specs.Prelude.{ℕ, ◌+◌, ◌*◌, ◌-◌, ◌<◌, ◌≤◌, ◌≡◌, ◌==◌, ◌⊎◌, ◌↔◌, Bool, List, [], ◌∷◌, ◌++◌, length, take, drop, slice_index, slice_index_or, Option, Some, Contains}
use Rattle.std.specs.List.{flat_map}
use Rattle.ffv1_bits.specs.Parity.{PassesParity}

-- Gives a content its tile, or none. The Bool says whether the content stands at its payload's start.
abbrev pub TileOf : Type 0
TileOf = List ℕ → Bool → Option ℕ

-- ---- slices

-- the last 8 bytes of a slice: 3 of its size, one of error_status, 4 of parity
abbrev pub footer : List ℕ → List ℕ
footer slice = drop (length slice - 8) slice

-- slice_size, the first 3 of them: how long the content is (RFC 9043, section 4.9.1), the highest byte first
abbrev pub slice_size : List ℕ → ℕ
slice_size slice = slice_index (footer slice) 0 * 65536 + slice_index (footer slice) 1 * 256 + slice_index (footer slice) 2

-- what stands before the footer
abbrev pub content : List ℕ → List ℕ
content slice = take (length slice - 8) slice

-- error_status (section 4.9.2), 0: no error, 1: a correctable one, 2: an uncorrectable one
abbrev pub error_status : List ℕ → ℕ
error_status slice = slice_index (footer slice) 3

-- Bytes fit their footer: they have one, and it gives the length of the content.
pub record FitsFooter (slice : List ℕ) : Type 0 where
  pub footed : 8 ≤ length slice
  pub size : slice_size slice ≡ length slice - 8

-- The bytes are a link of a payload, and `before` is all that stands before them there: the footer at the payload's end gives its last link,
-- and the earlier links are those of what stands before that. A link is followed whether or not it passes its parity.
pub data IsLink (before slice : List ℕ) : List ℕ → Type 0 where
  last : FitsFooter slice → IsLink before slice (before ++ slice)
  earlier : {rest other : List ℕ} → IsLink before slice rest → FitsFooter other → IsLink before slice (rest ++ other)

-- The bytes are a slice of the tile; `first` says whether they stand at their payload's start.
pub record IsTileSlice (tile_of : TileOf) (slice : List ℕ) (first : Bool) (tile : ℕ) : Type 0 where
  pub framed : FitsFooter slice
  pub passes : PassesParity slice
  pub of_tile : tile_of (content slice) first ≡ Some tile

-- ---- what is found in copies, and what is restored from it

-- The slice of the tile is found: it is a link of some copy.
pub record IsFound (tile_of : TileOf) (copies : List (List ℕ)) (tile : ℕ) (slice : List ℕ) : Type 0 where
  pub copy : List ℕ
  pub among : Contains copies copy
  pub before : List ℕ
  pub link : IsLink before slice copy
  pub is_slice : IsTileSlice tile_of slice (length before == 0) tile

-- The tile is settled by the slice: it is found, and any other that is found of the tile has a greater error_status.
pub record IsSettledBy (tile_of : TileOf) (copies : List (List ℕ)) (tile : ℕ) (slice : List ℕ) : Type 0 where
  pub found : IsFound tile_of copies tile slice
  pub best : (other : List ℕ) → IsFound tile_of copies tile other → (other ≡ slice) ⊎ (error_status slice < error_status other)

-- The payload is restored from the copies: each of so many tiles is settled, and their slices are joined in order.
pub record IsRestoredFrom (tile_of : TileOf) (tiles : ℕ) (copies : List (List ℕ)) (payload : List ℕ) : Type 0 where
  pub slices : List (List ℕ)
  pub count : length slices ≡ tiles
  pub joined : payload ≡ flat_map (λ slice. slice) slices
  pub each : (tile : ℕ) (d : List ℕ) → tile < tiles → IsSettledBy tile_of copies tile (slice_index_or slices tile d)

-- ---- an original, and its copies

-- The payload is an original: so many slices, the first of tile 0, the next of tile 1 and so on, joined in order.
pub record IsOriginalPayload (tile_of : TileOf) (tiles : ℕ) (payload : List ℕ) (slices : List (List ℕ)) : Type 0 where
  pub count : length slices ≡ tiles
  pub joined : payload ≡ flat_map (λ slice. slice) slices
  pub each : (tile : ℕ) (d : List ℕ) → tile < tiles → IsTileSlice tile_of (slice_index_or slices tile d) (tile == 0) tile

-- Whatever slice is found in the copies is the original's of its tile, and each of the original's is found in them.
pub record AreCopies (tile_of : TileOf) (slices copies : List (List ℕ)) : Type 0 where
  pub only : (tile : ℕ) (slice : List ℕ) → IsFound tile_of copies tile slice → (tile < length slices) × (slice ≡ slice_index_or slices tile slice)
  pub all : (tile : ℕ) (d : List ℕ) → tile < length slices → IsFound tile_of copies tile (slice_index_or slices tile d)

-- the same copies, in whatever order and however often
abbrev pub AreSameCopies : List (List ℕ) → List (List ℕ) → Type 0
AreSameCopies copies others = (copy : List ℕ) → Contains copies copy ↔ Contains others copy

-- ---- laws

-- Of copies of an original the original is restored, byte for byte, and nothing else.
abbrev pub CopiesRestoreTheOriginal : Type 0
CopiesRestoreTheOriginal =
    (tile_of : TileOf) (tiles : ℕ) (original : List ℕ) (slices copies : List (List ℕ))
    → IsOriginalPayload tile_of tiles original slices → AreCopies tile_of slices copies
    → (payload : List ℕ) → IsRestoredFrom tile_of tiles copies payload ↔ (payload ≡ original)

-- An original is a copy of itself: just its own slices are found in it.
abbrev pub OriginalIsACopy : Type 0
OriginalIsACopy =
    (tile_of : TileOf) (tiles : ℕ) (original : List ℕ) (slices : List (List ℕ))
    → IsOriginalPayload tile_of tiles original slices → AreCopies tile_of slices (original ∷ [])

-- The same slices are found in the same copies, ..
abbrev pub SameCopiesFindTheSame : Type 0
SameCopiesFindTheSame =
    (tile_of : TileOf) (copies others : List (List ℕ)) → AreSameCopies copies others
    → (tile : ℕ) (slice : List ℕ) → IsFound tile_of copies tile slice ↔ IsFound tile_of others tile slice

-- .. and at most one payload is restored from them, whatever they are copies of.
abbrev pub SameCopiesRestoreTheSame : Type 0
SameCopiesRestoreTheSame =
    (tile_of : TileOf) (tiles : ℕ) (copies others : List (List ℕ)) (payload other : List ℕ) → AreSameCopies copies others
    → IsRestoredFrom tile_of tiles copies payload → IsRestoredFrom tile_of tiles others other → payload ≡ other
