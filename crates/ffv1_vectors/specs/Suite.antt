-- The suite's cases: every combination of a chroma format, a grid, a content, a width and a height, by its number.
use Rattle.std.specs.Prelude.{◌≡◌, ◌==◌, ℕ, ◌+◌, ◌/◌, ◌%◌, ◌<◌, ◌≤◌, ◌*◌, List, [], ◌∷◌, length, slice_get, slice_index, Option, Some, None, if◌then◌else◌}
use Rattle.std.specs.Option.{is_some, unwrap_or}
use Rattle.ffv1_plane.specs.Picture.{samples_of}
use Rattle.ffv1_vectors.specs.Asked.{IsProfile, asked_sets}
use Rattle.ffv1_vectors.specs.Frames.{asked_planes}
use Rattle.ffv1_vectors.specs.declared.frame.TileSpec.{TileSpec}
use Rattle.ffv1_vectors.specs.declared.record.RecordSpec.{RecordSpec}
use Rattle.ffv1_vectors.specs.declared.suite.SuiteCase.{SuiteCase}
use Rattle.ffv1_vectors.specs.declared.suite.SuiteContent.{SuiteContent}
use Rattle.ffv1_vectors.specs.declared.suite.SuiteContent.TheVariants.{Flat, Rising, Alternating}
use Rattle.ffv1_vectors.specs.declared.suite.SuiteTables.{SuiteTables}
use Rattle.ffv1_vectors.specs.declared.suite.SuiteTables.TheVariants.{OneRun, SixRuns, TwoRuns}

-- gray, and the chroma shifts
abbrev pub suite_formats : List (Option (ℕ × ℕ))
suite_formats = None ∷ Some (0, 0) ∷ Some (1, 0) ∷ Some (1, 1) ∷ Some (2, 2) ∷ []

-- the tiles across and down
abbrev pub suite_grids : List (ℕ × ℕ)
suite_grids = (1, 1) ∷ (2, 2) ∷ (3, 2) ∷ []

abbrev pub suite_contents : List SuiteContent
suite_contents = Flat ∷ Rising ∷ Alternating ∷ []

-- the widths, and the heights
abbrev pub suite_sides : List ℕ
suite_sides = 1 ∷ 2 ∷ 7 ∷ 64 ∷ []

-- The case has this number among those with its tables.
pub record IsNumbered (tables : SuiteTables) (number : ℕ) (case : SuiteCase) : Type 0 where
  pub by_tables : case.tables ≡ tables
  pub chroma : slice_get suite_formats (number % 5) ≡ Some case.chroma
  pub grid : slice_get suite_grids (number / 5 % 3) ≡ Some case.grid
  pub content : slice_get suite_contents (number / 15 % 3) ≡ Some case.content
  pub width : slice_get suite_sides (number / 45 % 4) ≡ Some case.size.0
  pub height : slice_get suite_sides (number / 180 % 4) ≡ Some case.size.1

-- The case's grid is not finer than its frame.
pub record IsCoarse (case : SuiteCase) : Type 0 where
  pub across : case.grid.0 ≤ case.size.0
  pub down : case.grid.1 ≤ case.size.1

-- the lengths of the runs of a set's five tables
abbrev pub suite_tables : SuiteTables → List (List ℕ)
suite_tables OneRun = (128 ∷ []) ∷ (128 ∷ []) ∷ (128 ∷ []) ∷ (128 ∷ []) ∷ (128 ∷ []) ∷ []
suite_tables SixRuns =
    (1 ∷ 2 ∷ 4 ∷ 8 ∷ 16 ∷ 97 ∷ []) ∷ (1 ∷ 2 ∷ 4 ∷ 8 ∷ 16 ∷ 97 ∷ []) ∷ (1 ∷ 2 ∷ 4 ∷ 8 ∷ 16 ∷ 97 ∷ []) ∷ (128 ∷ []) ∷ (128 ∷ []) ∷ []
suite_tables TwoRuns = (1 ∷ 127 ∷ []) ∷ (128 ∷ []) ∷ (128 ∷ []) ∷ (128 ∷ []) ∷ (128 ∷ []) ∷ []

-- a sample of a plane, from its first one and its place
abbrev pub suite_sample : SuiteContent → ℕ → ℕ → ℕ
suite_sample Flat first place = first
suite_sample Rising first place = (first + place) % 256
suite_sample Alternating first place = if place % 2 == 0 then 0 else 255

-- The record is of the profile, with the case's format, grid and tables.
pub record IsRecordOf (case : SuiteCase) (spec : RecordSpec) : Type 0 where
  pub profile : IsProfile spec
  pub has_chroma : spec.has_chroma ≡ is_some case.chroma
  pub shift_h : spec.shift_h ≡ (unwrap_or case.chroma (0, 0)).0
  pub shift_v : spec.shift_v ≡ (unwrap_or case.chroma (0, 0)).1
  pub across : spec.across ≡ case.grid.0
  pub down : spec.down ≡ case.grid.1
  pub sets : asked_sets spec ≡ suite_tables case.tables ∷ []

-- The plane has so many samples, each as its place says.
pub record IsSuitePlane (content : SuiteContent) (first count : ℕ) (samples : List ℕ) : Type 0 where
  pub many : length samples ≡ count
  pub each : (place : ℕ) → place < count → slice_index samples place ≡ suite_sample content first place

-- The tile's planes have the case's content, each from a number of its own; its slice has the error status 0, and its header
-- the first set of tables, a progressive picture and an unknown sample aspect ratio (RFC 9043, sections 4.6 and 4.9).
pub record IsSuiteTile (case : SuiteCase) (tile : ℕ) (spec : TileSpec) : Type 0 where
  pub planes :
      (plane : ℕ) → plane < length spec.planes.items
      → IsSuitePlane case.content ((tile * 50 + plane * 7) % 256) (length (samples_of (asked_planes spec) plane)) (samples_of (asked_planes spec) plane)
  pub status : spec.status ≡ 0
  pub luma_table : spec.table_y ≡ 0
  pub chroma_table : spec.table_c ≡ 0
  pub picture_structure : spec.picture_structure ≡ 3
  pub sar_num : spec.sar_num ≡ 0
  pub sar_den : spec.sar_den ≡ 0
