-- What becomes of parts fits the versions, and what they give does not change a version's length.
use Rattle.std.proofs.Common.{◌≡◌, ℕ, ◌+◌, ◌<◌, ◌≤◌, List, [], ◌∷◌, Bor, length, get_or, sym, ap, ◌∙◌, subst, arith}
use Rattle.std.specs.Prelude.{All, Contains, slice_range}
use Rattle.std.specs.List.{filter}
use Rattle.std.proofs.lemmas.List.Edits.{length-between}
use Rattle.std.proofs.lemmas.List.Elements.{All-nil, All-cons, All-head, All-tail, All-map, All-filter, All-append}
use Rattle.ffv1_slice.proofs.NearLaws.{length-range}
use Rattle.ffv1_weave.specs.Parts.{written}
use Rattle.ffv1_weave.proofs.Choices.{length-written}
use Rattle.ffv1_weave.specs.References.{values_of}
use Rattle.ffv1_weave.proofs.References.{nowhere, value_there, each_value}
use Rattle.ffv1_splice.specs.Standings.{versions_at}
use Rattle.ffv1_splice.specs.Splice.{SplicedValue, IsSpliceOf}
use Rattle.ffv1_splice.specs.declared.place.Place.{Place}
use Rattle.ffv1_weave.proofs.Mapped.{mapped_of}
use Rattle.ffv1_splice.proofs.Versions.{version_there}
use Rattle.ffv1_splice.proofs.SplicePlaces.{places_within}
use Rattle.ffv1_mend.specs.Improved.{PartValue, Patch, patched, is_given, patches_of, given_by, given_patches, IsWithin, IsPartMend, ArePartMends}
use Rattle.ffv1_mend.specs.Improved.PartValue.{spliced, whole, disputed, missing}
use Rattle.ffv1_mend.specs.Inner.Improved.{IsSpliceFitting, IsFrameFitting, IsFitting, AreFitting}
use Rattle.ffv1_mend.specs.declared.part.Part.{Part}
use Rattle.ffv1_mend.specs.declared.part.Sort.{Sort}
use Rattle.ffv1_mend.specs.declared.part.Sort.TheVariants.{Frame, Flac}

-- ---- patches

-- a patch lies within so many bytes
abbrev pub Fits : ℕ → Patch → Type 0
Fits size patch = patch.start + length patch.bytes ≤ size

pub length-patched : (size : ℕ) (patches : List Patch) (bytes : List ℕ) → length bytes ≡ size → All (Fits size) patches → length (patched bytes patches) ≡ size
length-patched size [] bytes long fit = long
length-patched size (patch ∷ patches) bytes long fit =
    let here : patch.start + length patch.bytes ≤ size = All-head (Fits size) patch patches fit in
    length-patched size patches (written bytes patch.start patch.bytes) (length-written bytes patch.start patch.bytes (omega arith) ∙ long)
    (All-tail (Fits size) patch patches fit)

module _ (size : ℕ) (part : Part) (splice : SplicedValue) (fit : IsSpliceFitting size part splice) where
  place_fits : (place : Place) → (place.start ≤ place.end) × (place.end ≤ length splice.payload)
      → Fits size (record { start = part.start + place.start; bytes = slice_range splice.payload place.start place.end })
  place_fits place within =
      let long = fit.long in
      let inside = fit.inside.within in
      let up = within.0 in
      let below = within.1 in
      omega (arith, length-between splice.payload place.start place.end below)

  patches_fit : All (Fits size) (patches_of part splice)
  patches_fit =
      All-map (Fits size) (λ place. record { start = part.start + place.start; bytes = slice_range splice.payload place.start place.end })
      (filter (λ place. is_given place.standing) splice.places)
      (All-filter (λ place. is_given place.standing)
      (λ place. Fits size (record { start = part.start + place.start; bytes = slice_range splice.payload place.start place.end })) splice.places
      (λ k d lt. place_fits (get_or splice.places k d) (fit.places k d lt)))

-- the one patch of a frame of FLAC that is whole
frame_fits : (size : ℕ) (part : Part) (bytes : List ℕ) → IsFrameFitting size part bytes → All (Fits size) (record { start = part.start; bytes = bytes } ∷ [])
frame_fits size part bytes fit =
    let long = fit.long in
    let inside = fit.inside.within in
    let fits : part.start + length bytes ≤ size = omega arith in
    All-cons (Fits size) (record { start = part.start; bytes = bytes }) [] fits (All-nil (Fits size))

by_part_fit : (size : ℕ) (part : Part) (mend : PartValue) → IsFitting size part mend → All (Fits size) (given_by part mend)
by_part_fit size part (spliced splice) fit = patches_fit size part splice fit
by_part_fit size part (whole bytes) fit = frame_fits size part bytes fit
by_part_fit size part disputed fit = All-nil (Fits size)
by_part_fit size part missing fit = All-nil (Fits size)

pub given_fit : (size : ℕ) (parts : List Part) (mends : List PartValue) → AreFitting size parts mends → All (Fits size) (given_patches parts mends)
given_fit size [] mends fit = All-nil (Fits size)
given_fit size (part ∷ parts) [] fit = absurd fit
given_fit size (part ∷ parts) (mend ∷ mends) fit =
    All-append (Fits size) (given_by part mend) (given_patches parts mends) (by_part_fit size part mend fit.0) (given_fit size parts mends fit.1)

-- improved versions are as long
pub length-improved : (size : ℕ) (parts : List Part) (mends : List PartValue) (version : List ℕ) → AreFitting size parts mends → length version ≡ size
    → length (patched version (given_patches parts mends)) ≡ size
length-improved size parts mends version fit long = length-patched size (given_patches parts mends) version long (given_fit size parts mends fit)

-- ---- what becomes of what versions have

module _ (versions : List (List ℕ)) (size : ℕ) (one_length : (version : List ℕ) → Contains versions version → length version ≡ size) (first : List ℕ)
    (there : Contains versions first) where
  splice_fits : (part : Part) (splice : SplicedValue) → IsWithin size part → IsSpliceOf (versions_at versions part.start part.end) splice
      → IsSpliceFitting size part splice
  splice_fits part splice within is =
      let order = within.order in
      let inside = within.within in
      let long = one_length first there in
      let same = is.one_length (slice_range first part.start part.end) (version_there versions part.start part.end first there) in
      let range = length-range first part.start part.end order (omega arith) in
      record {
        inside = within;
        long = omega arith;
        places = places_within (versions_at versions part.start part.end) splice is;
      }

  -- a version of a part is as long as the part
  version_fits : (part : Part) (bytes : List ℕ) → IsWithin size part → Contains (versions_at versions part.start part.end) bytes
      → IsFrameFitting size part bytes
  version_fits part bytes within at =
      let order = within.order in
      let inside = within.within in
      let of = mapped_of (λ version. slice_range version part.start part.end) versions bytes at in
      let long = one_length of.0 of.1 in
      let range = length-range of.0 part.start part.end order (omega arith) in
      record { inside = within; long = omega (arith, ap length of.2) }

  part_fits : (part : Part) (sort : Sort) (mend : PartValue) → IsWithin size part → IsPartMend sort (versions_at versions part.start part.end) mend
      → IsFitting size part mend
  part_fits part Frame (spliced splice) within is = splice_fits part splice within is
  part_fits part Frame (whole bytes) within is = absurd is
  part_fits part Frame disputed within is = tt
  part_fits part Frame missing within is = tt
  part_fits part Flac (spliced splice) within is = absurd is
  part_fits part Flac (whole bytes) within is = version_fits part bytes within is.there.there
  part_fits part Flac disputed within is = tt
  part_fits part Flac missing within is = tt

  pub parts_fit : (parts : List Part) (mends : List PartValue) → All (IsWithin size) parts → ArePartMends versions parts mends
      → AreFitting size parts mends
  parts_fit [] [] within are = tt
  parts_fit [] (mend ∷ mends) within are = absurd are
  parts_fit (part ∷ parts) [] within are = absurd are
  parts_fit (part ∷ parts) (mend ∷ mends) within are = (
    part_fits part part.sort mend (All-head (IsWithin size) part parts within) are.0,
    parts_fit parts mends (All-tail (IsWithin size) part parts within) are.1,
  )

-- as the code has them
pub fit_as_lent : (versions : List (Bor (List ℕ))) (from : List ℕ) (parts : List Part) (mends lent : List PartValue) → 0 < length versions
    → All (λ version. length version.now ≡ length from) versions → All (IsWithin (length from)) parts → ArePartMends (values_of versions) parts mends
    → lent ≡ mends → AreFitting (length from) parts lent
fit_as_lent versions from parts mends lent some long within are same =
    subst (AreFitting (length from) parts) (sym same)
    (parts_fit (values_of versions) (length from) (each_value versions (λ version. length version ≡ length from) long) (get_or versions 0 nowhere).now
    (value_there versions 0 nowhere some) parts mends within are)
