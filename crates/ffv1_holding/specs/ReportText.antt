-- The damage report of a holding: a line for each tile, after that of a settled one a line for each copy that gave its slice, and
-- what the whole frame comes to.
use Rattle.std.specs.Prelude.{ℕ, ◌/◌, ◌%◌, ◌==◌, ◌++◌, Bool, true, false, List, [], ◌∷◌, length, min, codes, count_by, if◌then◌else◌}
use Rattle.std.specs.List.{flat_map, range_with_len}
use Rattle.std.specs.Fmt.{decimal, digit_glyph}
use Rattle.sha2.specs.Sha256.{sha256}
use Rattle.ffv1_holding.specs.Sets as set
use Rattle.ffv1_holding.specs.Reels.{reel_tiles}
use Rattle.ffv1_holding.specs.TileSets.{tile_slices}
use Rattle.ffv1_holding.specs.Contents.{Contents, digests_of}
use Rattle.ffv1_holding.specs.TileState.{StateOfTile, missing, settled, disputed, status_of, tile_state, restored_payload}

-- a byte as two lower-case digits
abbrev pub hex_byte : ℕ → List ℕ
hex_byte b = digit_glyph false (b / 16) ∷ digit_glyph false (b % 16) ∷ []

-- the SHA-256 digest of bytes, as 64 lower-case digits
abbrev pub digest_text : List ℕ → List ℕ
digest_text bytes = flat_map hex_byte (sha256 bytes)

abbrev pub reel_line : Contents → List ℕ
reel_line h =
    codes "reel " ++ decimal h.reel.setup.width ++ codes "x" ++ decimal h.reel.setup.height ++ codes " tiles " ++ decimal (reel_tiles h.reel) ++ codes "\n"

-- the least error_status of slices
abbrev pub least_status : List (List ℕ) → ℕ
least_status [] = 0
least_status (b ∷ []) = status_of b
least_status (b ∷ c ∷ bs) = min (status_of b) (least_status (c ∷ bs))

-- the slices that are held of a tile
abbrev pub slices_held : Contents → ℕ → List (List ℕ)
slices_held h tile = set.items (tile_slices h.slices tile)

-- what there is to say of a settled tile, of which so many slices are held
abbrev pub settled_numbers : List ℕ → ℕ → List ℕ
settled_numbers slice held =
    codes " settled status " ++ decimal (status_of slice) ++ codes " bytes " ++ decimal (length slice) ++ codes " held " ++ decimal held
    ++ codes " sha256 "

abbrev pub settled_words : List ℕ → ℕ → List ℕ
settled_words slice held = settled_numbers slice held ++ digest_text slice

-- what there is to say of a disputed one
abbrev pub disputed_words : ℕ → ℕ → ℕ → List ℕ
disputed_words slices status held = codes " disputed " ++ decimal slices ++ codes " status " ++ decimal status ++ codes " held " ++ decimal held

-- how a tile stands, after its number
abbrev pub tile_words : List (List ℕ) → StateOfTile → List ℕ
tile_words held missing = codes " missing"
tile_words held (settled slice) = settled_words slice (length held)
tile_words held (disputed slices) = disputed_words slices (least_status held) (length held)

abbrev pub tile_line : Contents → ℕ → List ℕ
tile_line h tile = codes "tile " ++ decimal tile ++ tile_words (slices_held h tile) (tile_state h tile) ++ codes "\n"

-- a copy that a settled slice of a tile was found in, by its digest
abbrev pub origin_line : ℕ → List ℕ → List ℕ
origin_line tile digest = codes "tile " ++ decimal tile ++ codes " origin " ++ flat_map hex_byte digest ++ codes "\n"

-- all copies that are known of it, of a settled tile alone
abbrev pub origin_lines : Contents → ℕ → StateOfTile → List ℕ
origin_lines h tile missing = []
origin_lines h tile (settled slice) = flat_map (origin_line tile) (digests_of h (tile, slice))
origin_lines h tile (disputed slices) = []

abbrev pub tile_lines : Contents → ℕ → List ℕ
tile_lines h tile = tile_line h tile ++ origin_lines h tile (tile_state h tile)

abbrev pub is_missing : StateOfTile → Bool
is_missing missing = true
is_missing (settled slice) = false
is_missing (disputed slices) = false

abbrev pub is_settled : StateOfTile → Bool
is_settled missing = false
is_settled (settled slice) = true
is_settled (disputed slices) = false

abbrev pub is_disputed : StateOfTile → Bool
is_disputed missing = false
is_disputed (settled slice) = false
is_disputed (disputed slices) = true

-- how many tiles stand so
abbrev pub tiles_that : (StateOfTile → Bool) → Contents → ℕ
tiles_that stands h = count_by (λ tile. stands (tile_state h tile)) (range_with_len 0 (reel_tiles h.reel))

abbrev pub count_words : ℕ → ℕ → ℕ → List ℕ
count_words sure doubtful absent =
    codes "settled " ++ decimal sure ++ codes " disputed " ++ decimal doubtful ++ codes " missing " ++ decimal absent ++ codes "\n"

abbrev pub count_line : Contents → List ℕ
count_line h = count_words (tiles_that is_settled h) (tiles_that is_disputed h) (tiles_that is_missing h)

abbrev pub length_words : ℕ → List ℕ
length_words bytes = codes "frame bytes " ++ decimal bytes ++ codes " sha256 "

abbrev pub whole_words : List ℕ → List ℕ
whole_words payload = length_words (length payload) ++ digest_text payload ++ codes "\n"

-- the restored payload, where all tiles are settled
abbrev pub frame_line : Contents → List ℕ
frame_line h = if tiles_that is_settled h == reel_tiles h.reel then whole_words (restored_payload h) else codes "frame incomplete\n"

unfoldable pub report_text : Contents → List ℕ
report_text h = reel_line h ++ flat_map (tile_lines h) (range_with_len 0 (reel_tiles h.reel)) ++ count_line h ++ frame_line h
