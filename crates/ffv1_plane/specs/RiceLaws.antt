-- What the definition of spelled planes gives: laws over the definitions alone.
use Rattle.std.specs.Prelude.{◌≡◌, ℕ, List, Bool, ℤ}
use Rattle.std.specs.List.{All}
use Rattle.ffv1_range.specs.Setup.{RecordingValue, IsInVersion3}
use Rattle.ffv1_rice.specs.declared.code.CodeFault.{CodeFault}
use Rattle.ffv1_plane.specs.StuckLaws.{IsOnePlace}
use Rattle.ffv1_plane.specs.RangeSlices.{slice_shape}
use Rattle.ffv1_plane.specs.RangeReading.{IsPlaneSize}
use Rattle.ffv1_plane.specs.RangeLaws.{HaveEqualRows}
use Rattle.ffv1_plane.specs.RiceSlices.{ArePlanesSpelled, AreCodesStuck}
use Rattle.ffv1_plane.specs.declared.planes.PlaneSize.{PlaneSize}

-- After the same values no bits begin with two lists of planes, and the same bits are left.
abbrev pub OneCodesReading : Type 0
OneCodesReading =
    (r : RecordingValue) (sets : List ℕ) (sizes : List PlaneSize) (values : ℕ → ℕ → List ℤ) (bits rest tail : List Bool) (planes others : List (List ℕ))
    → IsInVersion3 r → All IsPlaneSize sizes → HaveEqualRows r sizes
    → ArePlanesSpelled (slice_shape r sets sizes) values bits planes rest → ArePlanesSpelled (slice_shape r sets sizes) values bits others tail
    → (planes ≡ others) × (rest ≡ tail)

-- Bits that are stuck begin with no planes.
abbrev pub StuckCodesSpellNothing : Type 0
StuckCodesSpellNothing =
    (r : RecordingValue) (sets : List ℕ) (sizes : List PlaneSize) (values : ℕ → ℕ → List ℤ) (bits rest : List Bool) (fault : CodeFault) (plane row x : ℕ)
    (planes : List (List ℕ)) → IsInVersion3 r → All IsPlaneSize sizes
    → AreCodesStuck (slice_shape r sets sizes) values bits fault plane row x → ArePlanesSpelled (slice_shape r sets sizes) values bits planes rest → ⊥

-- Bits that are stuck are so with one fault and at one sample.
abbrev pub StuckCodesAreOne : Type 0
StuckCodesAreOne =
    (r : RecordingValue) (sets : List ℕ) (sizes : List PlaneSize) (values : ℕ → ℕ → List ℤ) (bits : List Bool) (fault other : CodeFault)
    (plane level row v x u : ℕ) → IsInVersion3 r → All IsPlaneSize sizes → AreCodesStuck (slice_shape r sets sizes) values bits fault plane row x
    → AreCodesStuck (slice_shape r sets sizes) values bits other level v u → IsOnePlace fault other plane level row v x u
