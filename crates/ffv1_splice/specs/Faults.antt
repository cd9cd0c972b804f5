-- Why copies are not spliced.
use Rattle.std.specs.Prelude.{ℕ, ◌<◌, ◌≡◌, List, [], length, slice_index_or}
use Rattle.ffv1_splice.specs.declared.splicing.SpliceFault.{SpliceFault}
use Rattle.ffv1_splice.specs.declared.splicing.SpliceFault.TheVariants.{OtherLength, Memory}

-- the length of a copy, by its index
abbrev pub length_at : List (List ℕ) → ℕ → ℕ
length_at copies index = length (slice_index_or copies index [])

-- All copies are as long as the first.
abbrev pub HasOneLength : List (List ℕ) → Type 0
HasOneLength copies = (index : ℕ) → index < length copies → length_at copies index ≡ length_at copies 0

-- The first copy that is not as long as the first.
pub record IsOfOtherLength (copies : List (List ℕ)) (index : ℕ) : Type 0 where
  pub there : index < length copies
  pub other : length_at copies index ≡ length_at copies 0 → ⊥
  pub earlier : (before : ℕ) → before < index → length_at copies before ≡ length_at copies 0

-- A copy of another length is reported first; `Memory` is possible only if there is none.
abbrev pub IsSpliceFault : List (List ℕ) → SpliceFault → Type 0
IsSpliceFault copies (OtherLength index) = IsOfOtherLength copies index
IsSpliceFault copies Memory = HasOneLength copies
