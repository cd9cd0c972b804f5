-- What the small definitions say is so of what becomes of a stretch, and they ask no more of an original and its versions.
use Rattle.std.specs.Prelude.{ℕ, ◌≡◌, true, List, Contains}
use Rattle.ffv1_bits.specs.Parity.{AreBytes}
use Rattle.ffv1_mend.specs.Improved.{improved}
use Rattle.ffv1_mend.specs.Mended.{MendedValue, IsMendOf, is_good}
use Rattle.ffv1_mend.specs.Laws.{HasOriginal}
use Rattle.ffv1_mend.specs.Small.{IsGoodOf, IsKnownAgain}
use Rattle.ffv1_mend.specs.declared.kind.Kind.{Kind}
use Rattle.ffv1_mend.specs.declared.part.Part.{Part}

-- ---- laws

-- What becomes of a stretch is so, where it is good.
abbrev pub GoodIsOfMend : Type 0
GoodIsOfMend =
    (kind : Kind) (versions : List (List ℕ)) (from : List ℕ) (parts : List Part) (mended : MendedValue) → IsMendOf kind versions from parts mended
    → is_good mended.state ≡ true → IsGoodOf kind versions (improved versions parts mended.parts) mended.bytes

-- What is asked of an original is asked here too, where the versions are of bytes.
abbrev pub OriginalIsKnownAgain : Type 0
OriginalIsKnownAgain =
    (kind : Kind) (original : List ℕ) (versions : List (List ℕ)) (parts : List Part) (mended : MendedValue)
    → HasOriginal kind original versions parts mended → ((version : List ℕ) → Contains versions version → AreBytes version)
    → IsKnownAgain kind versions (improved versions parts mended.parts) original
