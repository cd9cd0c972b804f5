-- The planes of a tile as they are read, those first that share adaptive states.
use Rattle.std.specs.Prelude.{◌≡◌, List, Bool, ◌++◌, ℕ}
use Rattle.ffv1_range.specs.Setup.{SetupValue}
use Rattle.ffv1_range.specs.Tiles.{grid_of, plane_rect}
use Rattle.ffv1_range.specs.declared.head.SliceHead.{SliceHead}
use Rattle.ffv1_plane.specs.Inner.PlaneRows.{values_after_rows, PlaneSpells}
use Rattle.ffv1_plane.specs.Picture.{ArePlanesOf, IsPlaneIn, plane_height, shaped_plane, no_values, PictureSpells}

-- Plane Y was read.
pub record IsLumaRead (setup : SetupValue) (head : SliceHead) (bits : List Bool) (samples : List ℕ) (rest : List Bool) : Type 0 where
  pub size : IsPlaneIn (plane_rect (grid_of setup) head.tile 0) samples
  pub front : List Bool
  pub begins : bits ≡ front ++ rest
  pub spells : PlaneSpells no_values (shaped_plane setup head 0 samples) (plane_height setup head.tile 0) front

-- The planes Cb and Cr were read.
pub record IsChromaRead (setup : SetupValue) (head : SliceHead) (bits : List Bool) (cb cr : List ℕ) (rest : List Bool) : Type 0 where
  pub cb_size : IsPlaneIn (plane_rect (grid_of setup) head.tile 1) cb
  pub cr_size : IsPlaneIn (plane_rect (grid_of setup) head.tile 2) cr
  pub front : List Bool
  pub back : List Bool
  pub begins : bits ≡ front ++ (back ++ rest)
  pub cb_spells : PlaneSpells no_values (shaped_plane setup head 1 cb) (plane_height setup head.tile 1) front
  pub cr_spells : PlaneSpells (values_after_rows no_values (shaped_plane setup head 1 cb) (plane_height setup head.tile 1)) (shaped_plane setup head 2 cr)
      (plane_height setup head.tile 2) back

-- All planes were read.
pub record ArePlanesRead (setup : SetupValue) (head : SliceHead) (bits : List Bool) (planes : List (List ℕ)) (rest : List Bool) : Type 0 where
  pub sizes : ArePlanesOf setup head.tile planes
  pub words : List Bool
  pub begins : bits ≡ words ++ rest
  pub spells : PictureSpells setup head planes words
