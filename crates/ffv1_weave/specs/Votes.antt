-- Votes: slices put together of what most versions have.
use Rattle.std.specs.Prelude.{ℕ, ◌<◌, ◌≡◌, ◌⊎◌, List, Contains, length, slice_index, slice_index_or, sum}
use Rattle.ffv1_slice.specs.Members.{HasSameMembers, IsOnly}
use Rattle.ffv1_weave.specs.Checks.{PassesBy}
use Rattle.ffv1_weave.specs.Splits.{votes}
use Rattle.ffv1_weave.specs.Combinations.{IsCombinationBy, HasFew, HasMany}
use Rattle.ffv1_weave.specs.declared.check.Check.TheVariants.{Slice}
use Rattle.ffv1_weave.specs.declared.splits.Split.{Split}
use Rattle.ffv1_weave.specs.declared.splits.Split.TheVariants.{Regions}

-- There are three different versions at least.
pub record AreThree (versions : List (List ℕ)) : Type 0 where
  pub one : List ℕ
  pub other : List ℕ
  pub third : List ℕ
  pub one_there : Contains versions one
  pub other_there : Contains versions other
  pub third_there : Contains versions third
  pub one_other : one ≡ other → ⊥
  pub one_third : one ≡ third → ⊥
  pub other_third : other ≡ third → ⊥

-- A vote that passes: of three different versions or more, a combination of what most of them have in each segment, at a distance at which
-- there are at most 4096, which is a slice with its parity (RFC 9043, section 4.9.3).
pub record IsVote (versions : List (List ℕ)) (bytes : List ℕ) : Type 0 where
  pub three : AreThree versions
  pub split : Split
  pub there : Contains votes split
  pub count : ℕ
  pub few : HasFew versions split count
  pub combination : IsCombinationBy split versions bytes
  pub passes : PassesBy Slice bytes

-- how many are tried by a split: all, or none where they are too many
abbrev pub AreTriedBy : List (List ℕ) → Split → ℕ → Type 0
AreTriedBy versions split count = HasFew versions split count ⊎ (HasMany versions split × (count ≡ 0))

-- These bytes are the only vote that passes. The list has how many are tried at each distance, and so many are tried in all.
pub record IsVoteOf (versions : List (List ℕ)) (bytes : List ℕ) (count : ℕ) : Type 0 where
  pub only : IsOnly (IsVote versions) bytes
  pub tried : List ℕ
  pub all : length tried ≡ length votes
  pub each : (k : ℕ) → k < length votes → AreTriedBy versions (slice_index_or votes k Regions) (slice_index tried k)
  pub counted : count ≡ sum tried

-- ---- laws

-- The same versions have one vote.
pub record SameVersionsVote : Type 0 where
  pub same : (versions others : List (List ℕ)) (bytes : List ℕ) (count : ℕ) → HasSameMembers versions others → IsVoteOf versions bytes count
      → IsVoteOf others bytes count
  pub one : (versions : List (List ℕ)) (bytes others : List ℕ) (count other : ℕ) → IsVoteOf versions bytes count
      → IsVoteOf versions others other → (bytes ≡ others) × (count ≡ other)

-- Where the original is a vote that passes, nothing else is voted.
abbrev pub OriginalIsVoted : Type 0
OriginalIsVoted =
    (original : List ℕ) (versions : List (List ℕ)) (bytes : List ℕ) (count : ℕ) → IsVote versions original → IsVoteOf versions bytes count
    → bytes ≡ original
