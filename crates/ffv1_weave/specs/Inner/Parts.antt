-- The parts of versions as they are gone over: from the front on, each with what differs in it, and the combinations by number.
use Rattle.std.specs.Prelude.{ℕ, zero, suc, ◌-◌, ◌*◌, ◌/◌, ◌%◌, ◌<◌, ◌≤◌, ◌≡◌, ◌⊎◌, All, List, [], ◌∷◌, Contains, length, slice_index_or, slice_range}
use Rattle.ffv1_weave.specs.Regions.{AgreeAt}
use Rattle.ffv1_weave.specs.Splits.{IsPartBy, IsChoiceBy}
use Rattle.ffv1_weave.specs.Combinations.{IsTriedBy}
use Rattle.ffv1_weave.specs.declared.splits.Split.{Split}
use Rattle.ffv1_weave.specs.declared.weaving.TheConstants.{MOST_COMBINATIONS}
use Rattle.ffv1_weave.specs.Parts.{written}

-- a part, and the byte strings that versions have there
pub record Part : Type 0 where
  pub start : ℕ
  pub end : ℕ
  pub choices : List (List ℕ)

-- All byte strings that versions have between two places, and no others, each once.
pub record AreChoices (versions : List (List ℕ)) (start end : ℕ) (choices : List (List ℕ)) : Type 0 where
  pub each : (version : List ℕ) → Contains versions version → Contains choices (slice_range version start end)
  pub only : (k : ℕ) → k < length choices
      → (version : List ℕ) × Contains versions version × (slice_index_or choices k [] ≡ slice_range version start end)
  pub once : (j k : ℕ) → j < length choices → k < length choices → slice_index_or choices j [] ≡ slice_index_or choices k [] → j ≡ k

-- All byte strings that can be taken in a part by a split, and no others, each once.
pub record AreChoicesBy (split : Split) (versions : List (List ℕ)) (start end : ℕ) (choices : List (List ℕ)) : Type 0 where
  pub each : (choice : List ℕ) → IsChoiceBy split versions start end choice → Contains choices choice
  pub only : (k : ℕ) → k < length choices → IsChoiceBy split versions start end (slice_index_or choices k [])
  pub once : (j k : ℕ) → j < length choices → k < length choices → slice_index_or choices j [] ≡ slice_index_or choices k [] → j ≡ k

-- Versions that all differ.
abbrev pub AreDistinct : List (List ℕ) → Type 0
AreDistinct versions = (j k : ℕ) → j < length versions → k < length versions → slice_index_or versions j [] ≡ slice_index_or versions k [] → j ≡ k

-- Parts can be sought from a place on: it is the versions' start, or a part ends there.
abbrev pub IsEdge : Split → List (List ℕ) → ℕ → Type 0
IsEdge split versions from = (from ≡ 0) ⊎ ((start : ℕ) × IsPartBy split versions start from)

-- The next part from a place on at which versions differ: they agree before it.
pub record IsPartFrom (split : Split) (versions : List (List ℕ)) (from start end : ℕ) : Type 0 where
  pub beyond : from ≤ start
  pub until : (i : ℕ) → from ≤ i → i < start → AgreeAt versions i
  pub part : IsPartBy split versions start end

-- The next parts from a place on, from the front on.
abbrev pub ArePartsFrom : Split → List (List ℕ) → ℕ → List Part → Type 0
ArePartsFrom split versions from [] = Unit {0}
ArePartsFrom split versions from (part ∷ parts) =
    IsPartFrom split versions from part.start part.end × AreChoicesBy split versions part.start part.end part.choices
    × ArePartsFrom split versions part.end parts

-- where the last of the parts ends
abbrev pub parts_end : ℕ → List Part → ℕ
parts_end from [] = from
parts_end from (part ∷ parts) = parts_end part.end parts

-- All parts: the versions agree after the last of them.
pub record AreAllParts (split : Split) (versions : List (List ℕ)) (parts : List Part) : Type 0 where
  pub next : ArePartsFrom split versions 0 parts
  pub rest : (i : ℕ) → parts_end 0 parts ≤ i → AgreeAt versions i

-- A part lies within so many bytes, and has a choice at least; each fills it.
pub record IsFit (size : ℕ) (part : Part) : Type 0 where
  pub order : part.start ≤ part.end
  pub within : part.end ≤ size
  pub some : 0 < length part.choices
  pub fill : (k : ℕ) → k < length part.choices → length (slice_index_or part.choices k []) ≡ part.end - part.start

-- how many combinations there are: one choice in each part
abbrev pub count_of : List Part → ℕ
count_of [] = 1
count_of (part ∷ parts) = length part.choices * count_of parts

-- All parts by a split, which fit so many bytes, and have so many combinations, few enough to be tried.
pub record AreFewParts (split : Split) (versions : List (List ℕ)) (size : ℕ) (parts : List Part) (count : ℕ) : Type 0 where
  pub all : AreAllParts split versions parts
  pub fit : All (IsFit size) parts
  pub counted : count ≡ count_of parts
  pub few : count ≤ MOST_COMBINATIONS

-- The parts by the split that is tried.
pub record AreTriedParts (versions : List (List ℕ)) (size : ℕ) (parts : List Part) (count : ℕ) : Type 0 where
  pub split : Split
  pub tried : IsTriedBy versions split count
  pub few : AreFewParts split versions size parts count

-- The bytes with the choices of a combination written over them. Its number is one of mixed digits, the first part's the lowest.
abbrev pub chosen : List Part → ℕ → List ℕ → List ℕ
chosen [] code bytes = bytes
chosen (part ∷ parts) code bytes =
    chosen parts (code / length part.choices) (written bytes part.start (slice_index_or part.choices (code % length part.choices) []))

-- the byte strings of the combinations whose number is below one
abbrev pub chosen_below : List Part → List ℕ → ℕ → List (List ℕ)
chosen_below parts first zero = []
chosen_below parts first (suc code) = chosen parts code first ∷ chosen_below parts first code
