-- What the command `picture --any` makes and prints: the samples of what can be shown of a holding of any recording, whether it is not known
-- if the frame is a keyframe, and a line for each tile that has no samples, or whose slice does not end as an encoder ends it.
use Rattle.std.specs.Prelude.{ℕ, ◌++◌, Bool, true, All, List, [], length, Option, Result, slice_index_or, codes, ◌≡◌, if◌then◌else◌}
use Rattle.std.specs.List.{flat_map, range_with_len}
use Rattle.std.specs.Fmt.{decimal}
use Rattle.ffv1_devices.specs.Logs.{ReadLog, WriteLog}
use Rattle.ffv1_holding.specs.declared.recordings.Recordings.TheVariants.{Any}
use Rattle.ffv1_samples.specs.declared.faults.SliceFault.{SliceFault}
use Rattle.ffv1_samples.specs.declared.faults.SliceFault.TheVariants as causes
use Rattle.ffv1_player.specs.Shown.{ShowsHolding}
use Rattle.ffv1_player.specs.Written.{samples_bytes}
use Rattle.ffv1_player.specs.declared.shown.Shown.{Shown}
use Rattle.ffv1_player.specs.declared.shown.ShownTile.{ShownTile}
use Rattle.ffv1_player.specs.declared.shown.ShownTile.TheVariants.{Decoded, Missing, Disputed, NoKeyframe, Fault}
use Rattle.ffv1_commands.specs.Pictures.{ShowsPicture, ShowingStops, ReportsShowing}
use Rattle.ffv1_commands.specs.PictureText.{missing_line, disputed_line, stuck_line, header_line}
use Rattle.ffv1_commands.specs.declared.fault.CliFault.{CliFault}

-- nothing says whether the frame is a keyframe
abbrev pub key_line : (is_known : Bool) → List ℕ
key_line is_known = if is_known then [] else codes "keyframe unknown\n"

-- the frame is no keyframe
abbrev pub no_keyframe_line : ℕ → List ℕ
no_keyframe_line tile = codes "tile " ++ decimal tile ++ codes " no keyframe\n"

-- the bit after the last sample can't be read
abbrev pub end_fault_line : ℕ → List ℕ
end_fault_line tile = codes "tile " ++ decimal tile ++ codes " fault end\n"

-- the slice does not end as an encoder ends it, and has so many spare bits
abbrev pub unclean_tile_line : (tile spare : ℕ) → List ℕ
unclean_tile_line tile spare = codes "tile " ++ decimal tile ++ codes " unclean spare " ++ decimal spare ++ codes "\n"

-- why a tile's settled slice has no picture
abbrev pub slice_fault_line : ℕ → SliceFault → List ℕ
slice_fault_line tile (causes.Code fault plane y x) = stuck_line tile plane y x
slice_fault_line tile causes.End = end_fault_line tile
slice_fault_line tile cause = header_line tile

-- the line of a tile; one with samples whose slice ends as an encoder ends it has none
abbrev pub shown_line : ℕ → ShownTile → List ℕ
shown_line tile (Decoded end) = if end.is_clean then [] else unclean_tile_line tile end.spare_bits
shown_line tile Missing = missing_line tile
shown_line tile (Disputed slices) = disputed_line tile slices
shown_line tile NoKeyframe = no_keyframe_line tile
shown_line tile (Fault cause) = slice_fault_line tile cause

-- those of all tiles, in tile order
abbrev pub shown_text : List ShownTile → List ℕ
shown_text tiles = flat_map (λ tile. shown_line tile (slice_index_or tiles tile Missing)) (range_with_len 0 (length tiles))

-- The tile has samples, and its slice ends as an encoder ends it.
abbrev pub IsShownWhole : ShownTile → Type 0
IsShownWhole (Decoded end) = end.is_clean ≡ true
IsShownWhole _ = ⊥

-- the samples of what is shown, its lines, and where it is whole: each tile is
abbrev pub shown_samples : Shown → List ℕ
shown_samples shown = samples_bytes shown.samples

abbrev pub shown_lines : Shown → List ℕ
shown_lines shown = key_line shown.is_key_known ++ shown_text shown.tiles.items

abbrev pub IsWholeShown : Shown → Type 0
IsWholeShown shown = All IsShownWhole shown.tiles.items

-- What can be shown of the file's holding was written, and then the lines were printed; it is whole where each tile is.
abbrev pub ShowsAnyFile : (input out_before out_after printed_before printed_after : Option (List ℕ)) → Bool → Type 0
ShowsAnyFile input out_before out_after printed_before printed_after whole =
    ShowsPicture Any ShowsHolding shown_samples shown_lines IsWholeShown
    input out_before out_after printed_before printed_after whole

-- What a fault says, and what it left in the outputs where writing failed.
abbrev pub AnyPictureStops : (input out_before out_after printed_before printed_after : Option (List ℕ)) → CliFault → Type 0
AnyPictureStops input out_before out_after printed_before printed_after fault =
    ShowingStops Any ShowsHolding shown_samples shown_lines
    input out_before out_after printed_before printed_after fault

-- The same over the logs of the devices.
abbrev pub ReportsAnyPicture : Result Bool CliFault → (file_old file_new : ReadLog) → (out_old out_new output_old output_new : WriteLog) → Type 0
ReportsAnyPicture = ReportsShowing Any ShowsHolding shown_samples shown_lines IsWholeShown
