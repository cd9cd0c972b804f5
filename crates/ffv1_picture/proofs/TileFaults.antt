-- Why a content spells no picture of a tile.
use Rattle.std.proofs.Common.{◌≡◌, ◌⊎◌, ℕ, List, subst, inl, inr, ⊎_elim}
use Rattle.ffv1_range.specs.Setup.{SetupValue}
use Rattle.ffv1_plane.specs.Picture.{PictureValue, IsPictureOf}
use Rattle.ffv1_plane.specs.declared.tile.TileFault.{TileFault}
use Rattle.ffv1_plane.specs.declared.tile.TileFault.TheVariants.{Memory}
use Rattle.ffv1_picture.specs.TilePictures.{IsUnreadable}
use Rattle.ffv1_plane.specs.StuckLaws.{IsRefusedFor}

-- what is said of a tile's fault
pub record IsStatedOf (setup : SetupValue) (tile : ℕ) (content : List ℕ) (cause : TileFault) : Type 0 where
  pub found : (picture : PictureValue) → IsPictureOf setup tile content picture → cause ≡ Memory
  pub refused : (cause ≡ Memory) ⊎ IsRefusedFor setup tile content cause

no_memory : (setup : SetupValue) (tile : ℕ) (content : List ℕ) (cause : TileFault) → IsRefusedFor setup tile content cause → cause ≡ Memory → ⊥
no_memory setup tile content cause is memory = subst (IsRefusedFor setup tile content) memory is

-- Memory, or why there is no picture
pub unreadable : (setup : SetupValue) (tile : ℕ) (content : List ℕ) (cause : TileFault) → IsStatedOf setup tile content cause → (cause ≡ Memory)
    ⊎ IsUnreadable setup tile content cause
unreadable setup tile content cause stated = ⊎_elim
    (λ memory. inl memory)
    (λ is. inr (record {
      no_picture = λ planes spare spells. no_memory setup tile content cause is (stated.found (record { planes = planes; spare_bits = spare }) spells);
      is_cause = is;
    }))
    stated.refused
