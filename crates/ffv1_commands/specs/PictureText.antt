-- What the command `picture` makes and prints: the samples of a holding's partial picture, and a line for each tile that has none.
use Rattle.std.specs.Prelude.{ℕ, ◌++◌, Bool, All, List, [], length, Option, Result, slice_index_or, codes}
use Rattle.std.specs.List.{flat_map, range_with_len}
use Rattle.std.specs.Fmt.{decimal}
use Rattle.ffv1_holding.specs.declared.recordings.Recordings.TheVariants.{Profile}
use Rattle.ffv1_devices.specs.Logs.{ReadLog, WriteLog}
use Rattle.ffv1_plane.specs.declared.tile.TileFault.{TileFault}
use Rattle.ffv1_plane.specs.declared.tile.TileFault.TheVariants as tiles
use Rattle.ffv1_picture.specs.PartialPictures.{IsPartialPicture}
use Rattle.ffv1_picture.specs.declared.partial.Partial.{Partial}
use Rattle.ffv1_picture.specs.declared.partial.TileOutcome.{TileOutcome}
use Rattle.ffv1_picture.specs.declared.partial.TileOutcome.TheVariants.{Decoded, Missing, Disputed, Fault}
use Rattle.ffv1_commands.specs.Pictures.{ShowsPicture, ShowingStops, ReportsShowing}
use Rattle.ffv1_commands.specs.FrameText.{raw_bytes}
use Rattle.ffv1_commands.specs.declared.fault.CliFault.{CliFault}

abbrev pub missing_line : ℕ → List ℕ
missing_line tile = codes "tile " ++ decimal tile ++ codes " missing\n"

abbrev pub disputed_line : (tile slices : ℕ) → List ℕ
disputed_line tile slices = codes "tile " ++ decimal tile ++ codes " disputed " ++ decimal slices ++ codes "\n"

-- the sample at which a word or a code of a tile's settled slice can't be read
abbrev pub stuck_line : (tile plane y x : ℕ) → List ℕ
stuck_line tile plane y x =
    codes "tile " ++ decimal tile ++ codes " fault plane " ++ decimal plane ++ codes " y " ++ decimal y ++ codes " x " ++ decimal x ++ codes "\n"

abbrev pub header_line : ℕ → List ℕ
header_line tile = codes "tile " ++ decimal tile ++ codes " fault header\n"

-- why a tile's settled slice spells no picture
abbrev pub unreadable_line : ℕ → TileFault → List ℕ
unreadable_line tile (tiles.Code fault plane y x) = stuck_line tile plane y x
unreadable_line tile cause = header_line tile

-- the line of a tile without samples; a tile that has them has none
abbrev pub outcome_line : ℕ → TileOutcome → List ℕ
outcome_line tile (Decoded spare) = []
outcome_line tile Missing = missing_line tile
outcome_line tile (Disputed slices) = disputed_line tile slices
outcome_line tile (Fault cause) = unreadable_line tile cause

-- those of all tiles, in tile order
abbrev pub picture_text : List TileOutcome → List ℕ
picture_text outcomes = flat_map (λ tile. outcome_line tile (slice_index_or outcomes tile Missing)) (range_with_len 0 (length outcomes))

-- The tile has samples.
abbrev pub IsDecoded : TileOutcome → Type 0
IsDecoded (Decoded spare) = Unit {0}
IsDecoded _ = ⊥

-- the samples of a partial picture, its lines, and where it is whole: each tile has samples
abbrev pub partial_samples : Partial → List ℕ
partial_samples partial = raw_bytes partial.frame

abbrev pub partial_lines : Partial → List ℕ
partial_lines partial = picture_text partial.tiles.items

abbrev pub IsWholePartial : Partial → Type 0
IsWholePartial partial = All IsDecoded partial.tiles.items

-- The samples of the partial picture of the file's holding were written, and then the lines were printed; it is whole where each
-- tile has samples.
abbrev pub ShowsFile : (input out_before out_after printed_before printed_after : Option (List ℕ)) → Bool → Type 0
ShowsFile input out_before out_after printed_before printed_after whole =
    ShowsPicture Profile IsPartialPicture partial_samples partial_lines IsWholePartial
    input out_before out_after printed_before printed_after whole

-- What a fault says, and what it left in the outputs where writing failed.
abbrev pub PictureStops : (input out_before out_after printed_before printed_after : Option (List ℕ)) → CliFault → Type 0
PictureStops input out_before out_after printed_before printed_after fault =
    ShowingStops Profile IsPartialPicture partial_samples partial_lines
    input out_before out_after printed_before printed_after fault

-- The same over the logs of the devices.
abbrev pub ReportsPicture : Result Bool CliFault → (file_old file_new : ReadLog) → (out_old out_new output_old output_new : WriteLog) → Type 0
ReportsPicture = ReportsShowing Profile IsPartialPicture partial_samples partial_lines IsWholePartial
