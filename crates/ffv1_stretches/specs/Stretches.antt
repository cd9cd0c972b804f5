-- A stretch of a file, and the places that copies have of it (own).
use Rattle.std.specs.Prelude.{ℕ, ◌+◌, ◌≡◌, ◌≤◌, List, [], ◌∷◌, All, Option, Some, None, MatchOption, length, map, replicate, slice_index_or}
use Rattle.std.specs.List.{AllZip, fold, zip}
use Rattle.ffv1_mend.specs.declared.kind.Kind.{Kind}
use Rattle.ffv1_mend.specs.declared.part.Part.{Part}
use Rattle.ffv1_mend.specs.Improved.{IsWithin}

-- What vouches for a stretch, how many bytes it has, the number of its copy FROM, counted from 0, where each copy has it, and the frames
-- that lie in it.
pub record StretchValue : Type 0 where
  pub kind : Kind
  pub size : ℕ
  pub from : ℕ
  pub places : List (Option ℕ)
  pub parts : List Part

-- the copy of this number, counted from 0, has a place
abbrev pub HasPlace : List (Option ℕ) → ℕ → Type 0
HasPlace places copy = (place : ℕ) × (slice_index_or places copy None ≡ Some place)

-- Of each copy a place or none. The copy FROM has one. The parts lie within the stretch.
pub record IsStretchOf (copies : ℕ) (stretch : StretchValue) : Type 0 where
  pub count : length stretch.places ≡ copies
  pub from : HasPlace stretch.places stretch.from
  pub parts' : All (IsWithin stretch.size) stretch.parts

-- ---- where the stretches of each copy end

-- where a copy's stretches end, with one more of so many bytes at this place, if it has it
abbrev pub end_after : ℕ → ℕ → Option ℕ → ℕ
end_after size end None = end
end_after size end (Some place) = place + size

-- the same of each copy
abbrev pub ends_after : List ℕ → StretchValue → List ℕ
ends_after ends stretch = map (λ pair. end_after stretch.size pair.0 pair.1) (zip ends stretch.places)

-- Where the last stretch of each of so many copies ends: at 0 where it has none.
abbrev pub ends_of : ℕ → List StretchValue → List ℕ
ends_of copies stretches = fold ends_after (replicate copies 0) stretches

-- A copy's place, if it has one, is where its stretches before end, or after that.
abbrev pub IsAfter : ℕ → Option ℕ → Type 0
IsAfter end place = MatchOption place (Unit {0}) (λ start. end ≤ start)

-- so is each copy's
abbrev pub FollowsStretch : List ℕ → StretchValue → Type 0
FollowsStretch ends stretch = AllZip IsAfter ends stretch.places

-- Each stretch is one of so many copies, and follows those before it, the first of which follow these ends.
abbrev pub AreInOrder : ℕ → List ℕ → List StretchValue → Type 0
AreInOrder copies ends [] = Unit {0}
AreInOrder copies ends (stretch ∷ stretches) =
    IsStretchOf copies stretch × FollowsStretch ends stretch × AreInOrder copies (ends_after ends stretch) stretches
