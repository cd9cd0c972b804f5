-- The planar pixel formats of FFmpeg's encoder, each by its name, and the name of that of a recording.
use Rattle.std.specs.Prelude.{ℕ, ◌+◌, ◌==◌, ◌&&◌, ◌++◌, Bool, List, [], ◌∷◌, Option, find, option_map, codes, if◌then◌else◌}
use Rattle.std.specs.Fmt.{decimal}
use Rattle.std.specs.List.{list_any}
use Rattle.std.specs.Option.{option_map_or}
use Rattle.ffv1_range.specs.Setup.{RecordingValue}

-- What a format holds: colorspace_type, the number of planes, that of alpha included, the logarithms of a chroma sample's width and height,
-- the name at 8 bits a sample, and the numbers of bits that it has.
pub record FormatValue : Type 0 where
  pub colorspace : ℕ
  pub planes : ℕ
  pub shift_h : ℕ
  pub shift_v : ℕ
  pub name : List ℕ
  pub depths : List ℕ

abbrev pub format : (colorspace planes shift_h shift_v : ℕ) → (name depths : List ℕ) → FormatValue
format colorspace planes shift_h shift_v name depths =
    record { colorspace = colorspace; planes = planes; shift_h = shift_h; shift_v = shift_v; name = name; depths = depths }

-- FFmpeg 5.1 has these. Of RGB of 8 bits its encoder lists bgr0 and bgra, whose planes are those of gbrp and gbrap.
abbrev pub formats : List FormatValue
formats =
    format 0 1 0 0 (codes "gray") (8 ∷ 9 ∷ 10 ∷ 12 ∷ 16 ∷ [])
    ∷ format 0 3 1 1 (codes "yuv420p") (8 ∷ 9 ∷ 10 ∷ 12 ∷ 14 ∷ 16 ∷ [])
    ∷ format 0 3 1 0 (codes "yuv422p") (8 ∷ 9 ∷ 10 ∷ 12 ∷ 14 ∷ 16 ∷ [])
    ∷ format 0 3 0 0 (codes "yuv444p") (8 ∷ 9 ∷ 10 ∷ 12 ∷ 14 ∷ 16 ∷ [])
    ∷ format 0 3 0 1 (codes "yuv440p") (8 ∷ 10 ∷ 12 ∷ [])
    ∷ format 0 3 2 0 (codes "yuv411p") (8 ∷ [])
    ∷ format 0 3 2 2 (codes "yuv410p") (8 ∷ [])
    ∷ format 0 4 1 1 (codes "yuva420p") (8 ∷ 9 ∷ 10 ∷ 16 ∷ [])
    ∷ format 0 4 1 0 (codes "yuva422p") (8 ∷ 9 ∷ 10 ∷ 16 ∷ [])
    ∷ format 0 4 0 0 (codes "yuva444p") (8 ∷ 9 ∷ 10 ∷ 16 ∷ [])
    ∷ format 1 3 0 0 (codes "gbrp") (8 ∷ 9 ∷ 10 ∷ 12 ∷ 14 ∷ 16 ∷ [])
    ∷ format 1 4 0 0 (codes "gbrap") (8 ∷ 10 ∷ 12 ∷ 16 ∷ [])
    ∷ []

-- colorspace_type of a recording: 1 for RGB
abbrev pub colorspace_type : RecordingValue → ℕ
colorspace_type recording = if recording.is_rgb then 1 else 0

-- the number of its planes, that of alpha included
abbrev pub planes_with_alpha : RecordingValue → ℕ
planes_with_alpha recording = (if recording.setup.has_chroma then 3 else 1) + (if recording.has_alpha then 1 else 0)

-- whether a recording's planes are those of a format
abbrev pub has_format : RecordingValue → FormatValue → Bool
has_format recording f =
    (f.colorspace == colorspace_type recording) && (f.planes == planes_with_alpha recording)
    && (f.shift_h == recording.setup.shift_h) && (f.shift_v == recording.setup.shift_v)
    && list_any (λ depth. depth == recording.depth) f.depths

-- the name at 8 bits of a recording's format, if it has one
abbrev pub base_name : RecordingValue → Option (List ℕ)
base_name recording = option_map (λ f. f.name) (find (has_format recording) formats)

-- above 8 bits the name has their number, and `le`: the less significant byte comes first
abbrev pub name_at : ℕ → List ℕ → List ℕ
name_at depth name = if depth == 8 then name else name ++ decimal depth ++ codes "le"

-- the name of a recording's format, or `-` where it has none
abbrev pub format_name : RecordingValue → List ℕ
format_name recording = option_map_or (name_at recording.depth) (base_name recording) (codes "-")
