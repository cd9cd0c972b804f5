-- What `mend` makes of copies that are read as they were written, as the small definitions have it. What the command does stands in the
-- contract of its function, and need not be read for this.
use Rattle.std.specs.Prelude.{ℕ, ◌≡◌, true, List, length, map}
use Rattle.std.specs.List.{AllZip, flat_map}
use Rattle.ffv1_mend.specs.Improved.{Patch, patched}
use Rattle.ffv1_mend.specs.Small.{IsGoodOf}
use Rattle.ffv1_stretches.specs.Cells.{cells_of, versions_in}
use Rattle.ffv1_stretches.specs.Listed.{AreStretches}
use Rattle.ffv1_stretches.specs.Stretches.{StretchValue}
use Rattle.ffv1_commands.specs.MendLaws.{MendsTo}
use Rattle.ffv1_commands.specs.SpliceLaws.{Made}

-- The stretch is good with these bytes. The better versions are its versions, with the same patches written over each.
abbrev pub IsGoodStretch : (copies : List (List ℕ)) → StretchValue → (bytes : List ℕ) → Type 0
IsGoodStretch copies stretch bytes =
    (patches : List Patch)
    × IsGoodOf stretch.kind (versions_in (cells_of copies stretch))
    (map (λ version. patched version patches) (versions_in (cells_of copies stretch))) bytes

-- Where it returns `true`, OUT is the bytes of the stretches, one after the other, and each is good.
abbrev pub TrueIsGood : Type 0
TrueIsGood =
    (list : List ℕ) (copies : List (List ℕ)) (stretches : List StretchValue) (made : Made) → AreStretches (length copies) list stretches
    → MendsTo list copies made → made.returned ≡ true
    → (all : List (List ℕ)) × (made.file ≡ flat_map (λ bytes. bytes) all) × AllZip (IsGoodStretch copies) stretches all
