-- Patches that lie within their element.
use Rattle.std.specs.Prelude.{ℕ, ◌+◌, ◌≤◌, ◌≡◌, List, All, length}
use Rattle.std.specs.List.{AllZip}
use Rattle.ffv1_splice.specs.Splice.{SplicedValue}
use Rattle.ffv1_mend.specs.declared.part.Part.{Part}
use Rattle.ffv1_mend.specs.Improved.{PartValue, IsWithin}
use Rattle.ffv1_mend.specs.Improved.PartValue.{spliced, whole, disputed, missing}

-- A part's splice fits so many bytes: the part lies within them, the splice is as long as the part, and its places lie within it.
pub record IsSpliceFitting (size : ℕ) (part : Part) (splice : SplicedValue) : Type 0 where
  pub inside : IsWithin size part
  pub long : part.start + length splice.payload ≡ part.end
  pub places : All (λ place. (place.start ≤ place.end) × (place.end ≤ length splice.payload)) splice.places

-- A frame of FLAC fits so many bytes: the part lies within them, and the frame is as long as the part.
pub record IsFrameFitting (size : ℕ) (part : Part) (bytes : List ℕ) : Type 0 where
  pub inside : IsWithin size part
  pub long : part.start + length bytes ≡ part.end

-- So does what becomes of a part.
abbrev pub IsFitting : ℕ → Part → PartValue → Type 0
IsFitting size part (spliced splice) = IsSpliceFitting size part splice
IsFitting size part (whole bytes) = IsFrameFitting size part bytes
IsFitting size part disputed = Unit {0}
IsFitting size part missing = Unit {0}

abbrev pub AreFitting : ℕ → List Part → List PartValue → Type 0
AreFitting size parts mends = AllZip (IsFitting size) parts mends
