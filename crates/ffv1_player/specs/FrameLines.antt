-- What is printed of frames (own): a line for each, and one for each slice that does not end as an encoder ends it.
use Rattle.std.specs.Prelude.{ℕ, ◌+◌, Bool, List, [], ◌∷◌, ◌++◌, length, codes, if◌then◌else◌}
use Rattle.std.specs.List.{list_all}
use Rattle.std.specs.Fmt.{decimal}
use Rattle.ffv1_player.specs.declared.samples.Samples.{Samples}
use Rattle.ffv1_player.specs.declared.samples.SliceEnd.{SliceEnd}

-- each slice of the frame ends as an encoder ends it
abbrev pub is_clean_frame : Samples → Bool
is_clean_frame frame = list_all (λ end. end.is_clean) frame.slices.items

-- the line of the frame with this number
abbrev pub played_line : ℕ → Samples → List ℕ
played_line number frame =
    codes "frame " ++ decimal number ++ codes " key " ++ decimal (if frame.key then 1 else 0) ++ codes " slices " ++ decimal (length frame.slices.items)
    ++ codes "\n"

-- the line of the slice at this place, which has so many spare bits
abbrev pub unclean_line : (place spare : ℕ) → List ℕ
unclean_line place spare = codes "slice " ++ decimal place ++ codes " unclean spare " ++ decimal spare ++ codes "\n"

-- the line of a slice that does not end as an encoder ends it
abbrev pub slice_line : ℕ → SliceEnd → List ℕ
slice_line place end = if end.is_clean then [] else unclean_line place end.spare_bits

-- those of slices, the first of which is at this place
abbrev pub unclean_lines : ℕ → List SliceEnd → List ℕ
unclean_lines place [] = []
unclean_lines place (end ∷ ends) = slice_line place end ++ unclean_lines (place + 1) ends

-- all lines of the frame with this number
abbrev pub frame_text : ℕ → Samples → List ℕ
frame_text number frame = played_line number frame ++ unclean_lines 0 frame.slices.items

-- those of frames, the first of which has this number
abbrev pub frames_text : ℕ → List Samples → List ℕ
frames_text number [] = []
frames_text number (frame ∷ frames) = frame_text number frame ++ frames_text (number + 1) frames
