-- The code's pictures as those of the definitions.
use Rattle.std.specs.Prelude.{map}
use Rattle.ffv1_plane.specs.Picture.{PictureValue}
use Rattle.ffv1_plane.specs.declared.tile.TilePicture.{TilePicture}

abbrev pub picture_value : TilePicture → PictureValue
picture_value picture = record { planes = map (λ plane. plane.items) picture.planes.items; spare_bits = picture.spare_bits }
