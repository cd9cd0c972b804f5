-- Marks that need no comparing: of an element that is whole in all copies that have it.
use Rattle.std.proofs.Common.{◌≡◌, ℕ, ◌<◌, List, [], inl, inr, Option, Some, None, Bor, true, length, get_or, map, refl, ap, subst, arith}
use Rattle.std.specs.Prelude.{All, Contains}
use Rattle.std.specs.Str.{bytes_eq}
use Rattle.std.proofs.lemmas.Slice.Eq.{bytes_eq-Decides}
use Rattle.std.proofs.lemmas.Slice.Zip.{AllZip-long}
use Rattle.ffv1_slice.specs.Members.{IsOnly}
use Rattle.ffv1_splice.specs.Standings.{versions_at}
use Rattle.ffv1_mend.specs.Mended.{MendedValue, IsMendOf, IsElementMend, HasParts}
use Rattle.ffv1_mend.specs.Improved.{IsPartMend}
use Rattle.ffv1_mend.specs.declared.part.Part.{Part}
use Rattle.ffv1_stretches.specs.Stretches.{StretchValue}
use Rattle.ffv1_stretches.specs.Cells.{versions_in, IsStretchMend}
use Rattle.ffv1_stretches.specs.Inner.CellSteps.{cell_now, IsUnspliced}
use Rattle.ffv1_stretches.specs.Lines.{is_same}
use Rattle.ffv1_stretches.proofs.CellLemmas.{cell_at, there_among}

-- where an element has parts, and none was looked at, every version has its bytes
only_version : (versions : List (List ℕ)) (parts : List Part) (mended : MendedValue) → HasParts versions parts mended → 0 < length parts
    → mended.parts ≡ [] → IsOnly (Contains versions) mended.bytes
only_version versions parts mended (inl h) some none = h.0.1
only_version versions parts mended (inr h) some none =
    let long = AllZip-long (λ part mend. IsPartMend part.sort (versions_at versions part.start part.end) mend) parts mended.parts h.1 in
    let empty = ap length none in
    absurd (omega arith)

same_bytes : (one other : List ℕ) → one ≡ other → bytes_eq one other ≡ true
same_bytes one other same = (bytes_eq-Decides one other).1 same

same_cell : (cells : List (Option (List ℕ))) (bytes : List ℕ) → IsOnly (Contains (versions_in cells)) bytes → (k : ℕ)
    → (cell : Option (List ℕ)) → get_or cells k None ≡ cell → is_same bytes cell ≡ true
same_cell cells bytes only k None is = refl
same_cell cells bytes only k (Some version) is = same_bytes version bytes (only.others version (there_among cells k version is))

pub known_same : (cells : List (Option (Bor (List ℕ)))) (stretch : StretchValue) (mended : MendedValue) → IsStretchMend (map cell_now cells) stretch mended
    → IsUnspliced stretch mended → All (λ cell. is_same mended.bytes (cell_now cell) ≡ true) cells
known_same cells stretch mended outcome is k d lt =
    let versions : List (List ℕ) = versions_in (map cell_now cells) in
    let element : IsElementMend versions outcome.from stretch.parts mended =
    subst (λ kind. IsMendOf kind versions outcome.from stretch.parts mended) is.element outcome.mends in
    same_cell (map cell_now cells) mended.bytes (only_version versions stretch.parts mended element.mends is.parts is.none) k (cell_now (get_or cells k d))
    (cell_at cells k d lt)
