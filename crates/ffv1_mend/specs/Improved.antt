-- The frames that lie in an element, each mended of what the versions have there, and the versions with what these give.
use Rattle.std.specs.Prelude.{ℕ, ◌+◌, ◌≤◌, ◌≡◌, Bool, true, false, List, [], ◌∷◌, length, map, slice_range}
use Rattle.std.specs.List.{AllZip, filter, flat_map, fold, zip}
use Rattle.ffv1_slice.specs.Members.{IsOnly, IsOfTwo, IsOfNone}
use Rattle.ffv1_weave.specs.Parts.{written}
use Rattle.ffv1_weave.specs.declared.check.Check.TheVariants as check
use Rattle.ffv1_splice.specs.Standings.{versions_at}
use Rattle.ffv1_splice.specs.Splice.{SplicedValue, IsSpliceOf}
use Rattle.ffv1_splice.specs.declared.place.Standing.{Standing}
use Rattle.ffv1_splice.specs.declared.place.Standing.TheVariants.{Settled, Woven, Voted, Repaired}
use Rattle.ffv1_mend.specs.Passing.{IsPassing}
use Rattle.ffv1_mend.specs.declared.part.MendedPart.{MendedPart}
use Rattle.ffv1_mend.specs.declared.part.MendedPart.TheVariants as mended
use Rattle.ffv1_mend.specs.declared.part.Part.{Part}
use Rattle.ffv1_mend.specs.declared.part.Sort.{Sort}
use Rattle.ffv1_mend.specs.declared.part.Sort.TheVariants as sort

-- a part lies within so many bytes
pub record IsWithin (size : ℕ) (part : Part) : Type 0 where
  pub order : part.start ≤ part.end
  pub within : part.end ≤ size

-- ---- what becomes of a part

-- Of a frame of FFV1 its splice. Of a frame of FLAC the one version that passes; or two that differ do, or none does.
pub data PartValue : Type 0 where
  spliced : SplicedValue → PartValue
  whole : List ℕ → PartValue
  disputed : PartValue
  missing : PartValue

-- as the code has it
abbrev pub part_value : MendedPart → PartValue
part_value (mended.Spliced splice) = spliced splice
part_value (mended.Whole bytes) = whole bytes.now
part_value mended.Disputed = disputed
part_value mended.Missing = missing

-- this becomes of a part of this sort, of which the versions have these bytes
abbrev pub IsPartMend : Sort → List (List ℕ) → PartValue → Type 0
IsPartMend sort.Frame versions (spliced splice) = IsSpliceOf versions splice
IsPartMend sort.Flac versions (whole bytes) = IsOnly (IsPassing check.Flac versions) bytes
IsPartMend sort.Flac versions disputed = IsOfTwo (IsPassing check.Flac versions)
IsPartMend sort.Flac versions missing = IsOfNone (IsPassing check.Flac versions)
IsPartMend _ versions _ = ⊥

-- this becomes of each part
abbrev pub ArePartMends : List (List ℕ) → List Part → List PartValue → Type 0
ArePartMends versions parts mends = AllZip (λ part mend. IsPartMend part.sort (versions_at versions part.start part.end) mend) parts mends

-- ---- what is written over the versions

-- bytes for a place, counted from the element's start
pub record Patch : Type 0 where
  pub start : ℕ
  pub bytes : List ℕ

-- bytes with patches written over them
abbrev pub patched : List ℕ → List Patch → List ℕ
patched bytes patches = fold (λ before patch. written before patch.start patch.bytes) bytes patches

-- a patch has the original's bytes
abbrev pub IsRight : List ℕ → Patch → Type 0
IsRight original patch = patch.bytes ≡ slice_range original patch.start (patch.start + length patch.bytes)

-- a slice that passes its parity stands there
abbrev pub is_given : Standing → Bool
is_given Settled = true
is_given (Woven count) = true
is_given (Voted count) = true
is_given (Repaired count) = true
is_given _ = false

-- what the splice of a part gives: the bytes of its settled, woven, voted and repaired places
abbrev pub patches_of : Part → SplicedValue → List Patch
patches_of part splice =
    map (λ place. record { start = part.start + place.start; bytes = slice_range splice.payload place.start place.end })
    (filter (λ place. is_given place.standing) splice.places)

-- what a part gives: what its splice does, or the frame of FLAC that passes
abbrev pub given_by : Part → PartValue → List Patch
given_by part (spliced splice) = patches_of part splice
given_by part (whole bytes) = record { start = part.start; bytes = bytes } ∷ []
given_by part disputed = []
given_by part missing = []

-- what all parts give
abbrev pub given_patches : List Part → List PartValue → List Patch
given_patches parts mends = flat_map (λ pair. given_by pair.0 pair.1) (zip parts mends)

-- The improved versions: what the parts give stands in each.
abbrev pub improved : List (List ℕ) → List Part → List PartValue → List (List ℕ)
improved versions parts mends = map (λ version. patched version (given_patches parts mends)) versions

-- all bytes of a part: those of its splice, or the frame of FLAC that passes
abbrev pub whole_by : Part → PartValue → List Patch
whole_by part (spliced splice) = record { start = part.start; bytes = splice.payload } ∷ []
whole_by part (whole bytes) = record { start = part.start; bytes = bytes } ∷ []
whole_by part disputed = []
whole_by part missing = []

-- all bytes of all parts
abbrev pub whole_patches : List Part → List PartValue → List Patch
whole_patches parts mends = flat_map (λ pair. whole_by pair.0 pair.1) (zip parts mends)

-- The bytes where no checksum vouches for any: in each part its own, as far as it has some, and elsewhere those of a version.
abbrev pub fallback : List ℕ → List Part → List PartValue → List ℕ
fallback from parts mends = patched from (whole_patches parts mends)
