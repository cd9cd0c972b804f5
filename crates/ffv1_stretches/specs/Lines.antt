-- What is printed of stretches (own): a line for each, and of what is damaged or differs the lines of its slices.
use Rattle.std.specs.Prelude.{ℕ, ◌+◌, ◌==◌, ◌&&◌, Bool, true, false, List, [], ◌∷◌, ◌++◌, Option, Some, None, length, map, codes, slice_range, if◌then◌else◌}
use Rattle.std.specs.List.{flat_map, list_all, zip}
use Rattle.std.specs.Str.{bytes_eq}
use Rattle.std.specs.Fmt.{decimal}
use Rattle.ffv1_splice.specs.Splice.{SplicedValue}
use Rattle.ffv1_splice.specs.Text.{place_words, front_line}
use Rattle.ffv1_splice.specs.declared.place.Place.{Place}
use Rattle.ffv1_splice.specs.declared.place.Standing.{Standing}
use Rattle.ffv1_splice.specs.declared.place.Standing.TheVariants as standing
use Rattle.ffv1_mend.specs.Improved.{PartValue}
use Rattle.ffv1_mend.specs.Improved.PartValue.{spliced, whole, disputed, missing}
use Rattle.ffv1_mend.specs.Mended.{MendedValue}
use Rattle.ffv1_mend.specs.declared.kind.Kind.{Kind}
use Rattle.ffv1_mend.specs.declared.kind.Kind.TheVariants.{Frame, Crc32, Record, Flac, Plain}
use Rattle.ffv1_mend.specs.declared.part.Part.{Part}
use Rattle.ffv1_mend.specs.declared.state.State.{State}
use Rattle.ffv1_mend.specs.declared.state.State.TheVariants.{Whole, Disputed, Woven, Missing, Alone, Agreed, Open}
use Rattle.ffv1_stretches.specs.Stretches.{StretchValue}
use Rattle.ffv1_stretches.specs.Listed.{kind_word}
use Rattle.ffv1_stretches.specs.Cells.{cells_of}

-- ---- marks

-- what a copy has from one place of the stretch to another, if it has the stretch
abbrev pub cell_between : ℕ → ℕ → Option (List ℕ) → Option (List ℕ)
cell_between start end None = None
cell_between start end (Some version) = Some (slice_range version start end)

abbrev pub cells_between : List (Option (List ℕ)) → ℕ → ℕ → List (Option (List ℕ))
cells_between cells start end = map (cell_between start end) cells

-- a copy has these bytes of OUT, if it has the stretch
abbrev pub is_same : List ℕ → Option (List ℕ) → Bool
is_same bytes None = true
is_same bytes (Some version) = bytes_eq version bytes

-- the mark of a copy beside bytes of OUT: 1 where it has the same, 0 where it has others, and a hyphen where it does not have the stretch
abbrev pub mark_of : List ℕ → Option (List ℕ) → ℕ
mark_of bytes None = 45
mark_of bytes (Some version) = if bytes_eq version bytes then 49 else 48

-- a mark for each copy
abbrev pub marks_of : List (Option (List ℕ)) → List ℕ → List ℕ
marks_of cells bytes = map (mark_of bytes) cells

-- ---- the slices of a frame

abbrev pub is_place_settled : Standing → Bool
is_place_settled standing.Settled = true
is_place_settled _ = false

-- Nothing is said of a frame of FFV1 all of whose slices are settled, and of which each copy has what OUT has.
abbrev pub is_quiet : List (Option (List ℕ)) → List ℕ → SplicedValue → Bool
is_quiet cells bytes splice =
    (splice.front == 0) && (list_all (λ place. is_place_settled place.standing) splice.places && list_all (is_same bytes) cells)

-- the line of a slice of a frame
abbrev pub place_line : List (Option (List ℕ)) → List ℕ → Place → List ℕ
place_line cells bytes place =
    codes "  " ++ place_words place ++ codes " " ++ marks_of (cells_between cells place.start place.end) (slice_range bytes place.start place.end) ++ codes "\n"

-- the lines of a frame of which the copies have this, and OUT these bytes
abbrev pub splice_lines : List (Option (List ℕ)) → List ℕ → SplicedValue → List ℕ
splice_lines cells bytes splice = flat_map (place_line cells bytes) splice.places ++ codes "  " ++ front_line splice.front

-- the line of a frame of FLAC that stands so
abbrev pub flac_line : List (Option (List ℕ)) → List ℕ → List ℕ → List ℕ
flac_line cells bytes word = codes "  0.." ++ decimal (length bytes) ++ codes " " ++ word ++ codes " " ++ marks_of cells bytes ++ codes "\n"

-- Nothing is said of a frame of FLAC that is whole, and of which each copy has what OUT has.
abbrev pub is_part_quiet : List (Option (List ℕ)) → List ℕ → PartValue → Bool
is_part_quiet cells bytes (spliced splice) = is_quiet cells bytes splice
is_part_quiet cells bytes (whole frame) = list_all (is_same bytes) cells
is_part_quiet cells bytes disputed = false
is_part_quiet cells bytes missing = false

-- the lines of a part, or of a stretch that is a frame of FFV1
abbrev pub own_lines : List (Option (List ℕ)) → List ℕ → PartValue → List ℕ
own_lines cells bytes (spliced splice) = splice_lines cells bytes splice
own_lines cells bytes (whole frame) = flac_line cells bytes (codes "whole")
own_lines cells bytes disputed = flac_line cells bytes (codes "disputed")
own_lines cells bytes missing = flac_line cells bytes (codes "missing")

-- those of a stretch that is a frame of FFV1
abbrev pub frame_lines : List (Option (List ℕ)) → List ℕ → PartValue → List ℕ
frame_lines cells bytes mend = if is_part_quiet cells bytes mend then [] else own_lines cells bytes mend

-- those of the part of an element with this number
abbrev pub part_lines : ℕ → List (Option (List ℕ)) → List ℕ → PartValue → List ℕ
part_lines number cells bytes mend =
    if is_part_quiet cells bytes mend then [] else codes "  part " ++ decimal number ++ codes "\n" ++ own_lines cells bytes mend

-- those of the parts of an element, the first of which has this number
abbrev pub parts_lines : ℕ → List (Option (List ℕ)) → List ℕ → List (Part × PartValue) → List ℕ
parts_lines number cells bytes [] = []
parts_lines number cells bytes (pair ∷ pairs) =
    part_lines number (cells_between cells pair.0.start pair.0.end) (slice_range bytes pair.0.start pair.0.end) pair.1
    ++ parts_lines (number + 1) cells bytes pairs

-- ---- a stretch

abbrev pub state_words : State → List ℕ
state_words Whole = codes "whole"
state_words Disputed = codes "disputed"
state_words (Woven count) = codes "woven " ++ decimal count
state_words Missing = codes "missing"
state_words Alone = codes "alone"
state_words Agreed = codes "agreed"
state_words Open = codes "open"

-- the line of the stretch with this number
abbrev pub stretch_line : ℕ → List (Option (List ℕ)) → StretchValue → MendedValue → List ℕ
stretch_line number cells stretch mended =
    codes "stretch " ++ decimal number ++ codes " " ++ kind_word stretch.kind ++ codes " " ++ state_words mended.state ++ codes " "
    ++ marks_of cells mended.bytes ++ codes "\n"

-- the lines below that of a stretch: of a frame of FFV1 those of its splice, and of an element those of its parts
abbrev pub slice_lines : Kind → List (Option (List ℕ)) → StretchValue → MendedValue → List ℕ
slice_lines Frame cells stretch mended = flat_map (frame_lines cells mended.bytes) mended.parts
slice_lines Crc32 cells stretch mended = parts_lines 1 cells mended.bytes (zip stretch.parts mended.parts)
slice_lines Record cells stretch mended = []
slice_lines Flac cells stretch mended = []
slice_lines Plain cells stretch mended = []

-- all lines of the stretch with this number
abbrev pub stretch_text : ℕ → List (Option (List ℕ)) → StretchValue → MendedValue → List ℕ
stretch_text number cells stretch mended = stretch_line number cells stretch mended ++ slice_lines stretch.kind cells stretch mended

-- the lines of stretches, the first of which has this number
abbrev pub mend_text : ℕ → List (List ℕ) → List StretchValue → List MendedValue → List ℕ
mend_text number files (stretch ∷ stretches) (one ∷ others) =
    stretch_text number (cells_of files stretch) stretch one ++ mend_text (number + 1) files stretches others
mend_text number files _ _ = []
