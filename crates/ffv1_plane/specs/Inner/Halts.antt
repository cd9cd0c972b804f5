-- How the parts of the decoder stop at a word that can't be read: a run, a sample, a row, a plane and the planes of a tile.
use Rattle.std.specs.Prelude.{◌≡◌, ℕ, ◌+◌, ◌/◌, ◌%◌, ◌<◌, ◌≤◌, ◌⊎◌, Bool, List, ◌++◌, length, get_or, ℤ, nat_abs, ◌^◌}
use Rattle.ffv1_range.specs.Setup.{SetupValue, set_entry}
use Rattle.ffv1_range.specs.Tiles.{grid_of, plane_rect}
use Rattle.ffv1_range.specs.declared.head.SliceHead.{SliceHead}
use Rattle.ffv1_rice.specs.States.{ContextState, start_state}
use Rattle.ffv1_rice.specs.Codes.{IsCodeFault}
use Rattle.ffv1_rice.specs.Runs.{IsShortWord}
use Rattle.ffv1_rice.specs.declared.code.CodeFault.{CodeFault}
use Rattle.ffv1_plane.specs.Samples.{plane_of, neighbours_at, context_of, IsPlaneOfSize, Coding, coding_at}
use Rattle.ffv1_plane.specs.Spelling.{Residuals, residuals_of}
use Rattle.ffv1_plane.specs.Picture.{ArePlanesOf, IsPlaneIn, plane_set, plane_height, shaped_plane, no_values}
use Rattle.ffv1_plane.specs.Progress.{AreStatesAfter}
use Rattle.ffv1_plane.specs.Inner.PlaneRows.{values_after_rows, RowsSpell, PlaneSpells}
use Rattle.ffv1_plane.specs.Inner.Progress.{IsContinued, RowStart, IsReadTo}
use Rattle.ffv1_plane.specs.Stuck.{SpellsFront, IsWordRefused, AreBitsStuck}
use Rattle.ffv1_plane.specs.declared.plane.PlaneFault.{PlaneFault}
use Rattle.ffv1_plane.specs.declared.plane.PlaneFault.TheVariants as plane_faults
use Rattle.ffv1_plane.specs.declared.tile.TileFault.{TileFault}
use Rattle.ffv1_plane.specs.declared.tile.TileFault.TheVariants.{Code, Memory}

-- ---- a run and a code

-- Words that skip some samples of the line were read, and the bits end within the next.
pub record IsRunCut (left index : ℕ) (bits : List Bool) (skipped : ℕ) : Type 0 where
  pub words : List Bool
  pub next : ℕ
  pub others : List Bool
  pub begins : bits ≡ words ++ others
  pub front : SpellsFront skipped index words next
  pub inside : skipped < left
  pub cut : IsShortWord next others

-- the context of the next sample
abbrev pub next_context : ℕ → Coding → List ℕ → ℕ
next_context width coding samples = nat_abs (context_of coding.entry (neighbours_at width samples (length samples)))

-- The code of the next sample can't be read.
pub record IsCodeHalted (width : ℕ) (coding : Coding) (level : Bool) (samples : List ℕ) (states : List ContextState) (bits : List Bool) (fault : CodeFault)
    (sample : ℕ) : Type 0 where
  pub place : sample ≡ length samples
  pub below : next_context width coding samples < length states
  pub given : IsCodeFault coding.depth (get_or states (next_context width coding samples) start_state) level bits fault

abbrev pub IsSampleHalted : ℕ → Coding → Bool → List ℕ → List ContextState → List Bool → PlaneFault → Type 0
IsSampleHalted width coding level samples states bits (plane_faults.Code fault sample) = IsCodeHalted width coding level samples states bits fault sample
IsSampleHalted width coding level samples states bits plane_faults.Memory = Unit {0}

-- ---- a row and a plane

-- After the words before it, no word of a column can be read.
pub record IsHalted (earlier : ℕ → List ℤ) (r : Residuals) (first : ℕ) (bits : List Bool) (fault : CodeFault) (x : ℕ) : Type 0 where
  pub part : List Bool
  pub others : List Bool
  pub begins : bits ≡ part ++ others
  pub refused : IsWordRefused earlier r first x part others fault

-- No word of a sample in the rest of the row can be read. All is said of every plane that begins with these samples,
-- wherever the row began.
pub record IsRowHalted (width : ℕ) (coding : Coding) (old : List ℕ) (x index : ℕ) (states : List ContextState) (left : List Bool) (fault : CodeFault)
    (sample : ℕ) : Type 0 where
  pub samples : List ℕ
  pub continued : IsContinued old samples
  pub small : (s : ℕ) → get_or samples s 0 < 2 ^ coding.depth
  pub skipped : ℕ
  pub place : sample ≡ length old + skipped
  pub inside : x + skipped < width
  pub fits : length samples + x ≤ length old + width
  pub halted : (start : RowStart) (bits : List Bool) → IsReadTo start width coding bits old x index states left → (more : List ℕ)
      → IsHalted start.earlier (residuals_of (plane_of width coding (samples ++ more)) start.row) start.first bits fault (x + skipped)

abbrev pub IsNextHalted : ℕ → Coding → List ℕ → ℕ → ℕ → List ContextState → List Bool → PlaneFault → Type 0
IsNextHalted width coding old x index states left (plane_faults.Code fault sample) =
    ((s : ℕ) → get_or old s 0 < 2 ^ coding.depth) → IsRowHalted width coding old x index states left fault sample
IsNextHalted width coding old x index states left plane_faults.Memory = Unit {0}

-- For some plane of this size the rows above row y are read, and no word of its column x can be.
pub record IsPlaneHalted (earlier : ℕ → List ℤ) (width height : ℕ) (coding : Coding) (bits : List Bool) (fault : CodeFault) (y x : ℕ) : Type 0 where
  pub samples : List ℕ
  pub size : IsPlaneOfSize coding.depth width height samples
  pub row_there : y < height
  pub column_there : x < width
  pub above : List Bool
  pub index : ℕ
  pub spells : RowsSpell earlier (plane_of width coding samples) y above index
  pub rest : List Bool
  pub begins : bits ≡ above ++ rest
  pub halted : IsHalted (values_after_rows earlier (plane_of width coding samples) y) (residuals_of (plane_of width coding samples) y) index rest fault x

abbrev pub IsDecodingHalted : ℕ → ℕ → Coding → List ContextState → List Bool → PlaneFault → Type 0
IsDecodingHalted width height coding states bits (plane_faults.Code fault sample) =
    (earlier : ℕ → List ℤ) → AreStatesAfter coding.depth earlier states
    → IsPlaneHalted earlier width height coding bits fault (sample / width) (sample % width)
IsDecodingHalted width height coding states bits plane_faults.Memory = Unit {0}

-- ---- the planes of a tile

-- No word of a sample of a plane of a tile can be read, after earlier values.
abbrev pub IsTilePlaneHalted : SetupValue → SliceHead → ℕ → (ℕ → List ℤ) → List Bool → CodeFault → ℕ → ℕ → Type 0
IsTilePlaneHalted setup head plane earlier bits fault y x =
    IsPlaneHalted earlier (plane_rect (grid_of setup) head.tile plane).w (plane_rect (grid_of setup) head.tile plane).h
    (coding_at 8 (set_entry setup (plane_set head plane))) bits fault y x

abbrev pub IsPlaneOfHalted : SetupValue → SliceHead → ℕ → List ContextState → List Bool → TileFault → Type 0
IsPlaneOfHalted setup head plane states bits (Code fault level y x) = (level ≡ plane)
    × ((earlier : ℕ → List ℤ) → AreStatesAfter 8 earlier states → IsTilePlaneHalted setup head plane earlier bits fault y x)
IsPlaneOfHalted setup head plane states bits Memory = Unit {0}
IsPlaneOfHalted setup head plane states bits other = ⊥

abbrev pub IsLumaHalted : SetupValue → SliceHead → List Bool → TileFault → Type 0
IsLumaHalted setup head bits (Code fault level y x) = (level ≡ 0) × IsTilePlaneHalted setup head 0 no_values bits fault y x
IsLumaHalted setup head bits Memory = Unit {0}
IsLumaHalted setup head bits other = ⊥

-- Cb was read, and Cr halts.
pub record IsCrHalted (setup : SetupValue) (head : SliceHead) (bits : List Bool) (fault : CodeFault) (y x : ℕ) : Type 0 where
  pub cb : List ℕ
  pub size : IsPlaneIn (plane_rect (grid_of setup) head.tile 1) cb
  pub front : List Bool
  pub rest : List Bool
  pub begins : bits ≡ front ++ rest
  pub spells : PlaneSpells no_values (shaped_plane setup head 1 cb) (plane_height setup head.tile 1) front
  pub halted : IsTilePlaneHalted setup head 2 (values_after_rows no_values (shaped_plane setup head 1 cb) (plane_height setup head.tile 1)) rest fault y x

abbrev pub IsChromaHalted : SetupValue → SliceHead → List Bool → TileFault → Type 0
IsChromaHalted setup head bits (Code fault level y x) =
    ((level ≡ 1) × IsTilePlaneHalted setup head 1 no_values bits fault y x) ⊎ ((level ≡ 2) × IsCrHalted setup head bits fault y x)
IsChromaHalted setup head bits Memory = Unit {0}
IsChromaHalted setup head bits other = ⊥

-- For some picture of the tile the bits are stuck at a sample.
pub record ArePlanesStuck (setup : SetupValue) (head : SliceHead) (bits : List Bool) (fault : CodeFault) (plane y x : ℕ) : Type 0 where
  pub planes : List (List ℕ)
  pub sizes : ArePlanesOf setup head.tile planes
  pub front : List Bool
  pub stuck : AreBitsStuck setup head planes bits fault plane y x front

abbrev pub ArePlanesHalted : SetupValue → SliceHead → List Bool → TileFault → Type 0
ArePlanesHalted setup head bits (Code fault plane y x) = ArePlanesStuck setup head bits fault plane y x
ArePlanesHalted setup head bits Memory = Unit {0}
ArePlanesHalted setup head bits other = ⊥
