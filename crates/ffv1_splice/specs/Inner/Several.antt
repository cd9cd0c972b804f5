-- The starts that are claimed at an end, as they are tried one after the other.
use Rattle.std.specs.Prelude.{ℕ, ◌+◌, ◌-◌, ◌^◌, ◌<◌, ◌≤◌, ◌≡◌, List, length, map, min, slice_index, sum}
use Rattle.ffv1_weave.specs.Weave.{Weave, IsWeaveOf}
use Rattle.ffv1_weave.specs.Weave.Weave.{woven, missing}
use Rattle.ffv1_weave.specs.declared.check.Check.TheVariants.{Slice}
use Rattle.ffv1_splice.specs.Pieces.{IsClaimedStart}
use Rattle.ffv1_splice.specs.Standings.{versions_at, sized, IsWeaveOfSeveral}
use Rattle.ffv1_splice.specs.declared.several.Tried.{Tried}
use Rattle.ffv1_splice.specs.declared.several.Tried.TheVariants as tries

-- The least start from a place on that is claimed at an end.
pub record IsNextClaimedStart (copies : List (List ℕ)) (end from start : ℕ) : Type 0 where
  pub there : IsClaimedStart copies end start
  pub beyond : from ≤ start
  pub least : (other : ℕ) → IsClaimedStart copies end other → from ≤ other → start ≤ other

-- what came of the starts so far, of how many combinations
pub data TriedValue : Type 0 where
  none_woven : (count : ℕ) → TriedValue
  one_woven : (start : ℕ) (bytes : List ℕ) (count : ℕ) → TriedValue
  undecided : TriedValue

-- a number of combinations, or 2^64 - 1 if it is greater
abbrev pub capped : ℕ → ℕ
capped count = min count (2 ^ 64 - 1)

-- what came of the starts with one more, and the weave from it
abbrev pub tried_more : TriedValue → ℕ → Weave → TriedValue
tried_more (none_woven count) start (woven bytes more) = one_woven start bytes (capped (count + more))
tried_more (none_woven count) start (missing more) = none_woven (capped (count + more))
tried_more (one_woven first bytes count) start (missing more) = one_woven first bytes (capped (count + more))
tried_more _ start _ = undecided

-- what the code counts
abbrev pub tried_tally : Tried → TriedValue
tried_tally (tries.Missing count) = none_woven count
tried_tally (tries.Woven start bytes count) = one_woven start bytes.items count
tried_tally tries.Undecided = undecided

-- How many combinations were tried from each place before one, 0 where no start is claimed there; and nothing comes of any start but one
-- that is set apart.
pub record AreMissing (copies : List (List ℕ)) (end from : ℕ) (IsApart : ℕ → Type 0) (tried : List ℕ) : Type 0 where
  pub places : length tried ≡ from
  pub missing' : (start : ℕ) → start < from → IsClaimedStart copies end start → (IsApart start → ⊥)
      → IsWeaveOf Slice (map sized (versions_at copies start end)) (missing (slice_index tried start))
  pub no_claim : (start : ℕ) → (IsClaimedStart copies end start → ⊥) → slice_index tried start ≡ 0

-- something comes of one start alone
pub record IsOneWoven (copies : List (List ℕ)) (end from start : ℕ) (bytes : List ℕ) (tried : List ℕ) : Type 0 where
  pub others : AreMissing copies end from (λ other. other ≡ start) tried
  pub before : start < from
  pub claim : IsClaimedStart copies end start
  pub weave' : IsWeaveOf Slice (map sized (versions_at copies start end)) (woven bytes (slice_index tried start))

-- what comes of the starts before a place
abbrev pub AreTriedBefore : List (List ℕ) → (end from : ℕ) → TriedValue → Type 0
AreTriedBefore copies end from (none_woven count) = (tried : List ℕ) × AreMissing copies end from (λ start. ⊥) tried × (count ≡ capped (sum tried))
AreTriedBefore copies end from (one_woven start bytes count) =
    (tried : List ℕ) × IsOneWoven copies end from start bytes tried × (count ≡ capped (sum tried))
AreTriedBefore copies end from undecided = (start : ℕ) (bytes : List ℕ) (count : ℕ) → IsWeaveOfSeveral copies start end bytes count → ⊥
