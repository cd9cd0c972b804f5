-- How a line adds to stretches.
use Rattle.std.specs.Prelude.{ℕ, ◌≡◌, ◌<◌, ◌≤◌, Bool, List, [], ◌∷◌, ◌++◌, MatchBool, length, map}
use Rattle.ffv1_bits.specs.Limits.{payload_limit}
use Rattle.ffv1_texts.specs.Numbers.{IsNumber}
use Rattle.ffv1_mend.specs.declared.part.Part.{Part}
use Rattle.ffv1_stretches.specs.Stretches.{StretchValue, FollowsStretch, ends_after, ends_of}
use Rattle.ffv1_stretches.specs.Inner.Ends.{end_of}
use Rattle.ffv1_stretches.specs.declared.ends.End.{End}
use Rattle.ffv1_stretches.specs.Listed.{part_word, AreStretchWords, ArePartWords, IsNextPart, with_part, AreListed}

-- a word is the size of a stretch
pub record IsStretchSize (word : List ℕ) (size : ℕ) : Type 0 where
  pub number : IsNumber word size
  pub some : 0 < size
  pub few : size ≤ payload_limit

-- the words begin with that of a part
abbrev pub BeginsPart : List (List ℕ) → Type 0
BeginsPart words = (rest : List (List ℕ)) × (words ≡ part_word ∷ rest)

-- words are a part that follows those of a stretch
pub record IsPartOf (words : List (List ℕ)) (stretch : StretchValue) (part : Part) : Type 0 where
  pub words' : ArePartWords words part
  pub next : IsNextPart stretch part

-- The last stretch got the part that the words are.
pub record AddsPart (words : List (List ℕ)) (old new : List StretchValue) : Type 0 where
  pub before : List StretchValue
  pub last : StretchValue
  pub part : Part
  pub was : old ≡ before ++ last ∷ []
  pub is : IsPartOf words last part
  pub now : new ≡ before ++ with_part last part ∷ []

-- the words are no part that follows those of the last stretch
abbrev pub AddsNoPart : List (List ℕ) → List StretchValue → Type 0
AddsNoPart words old = (before : List StretchValue) (last : StretchValue) (part : Part) → old ≡ before ++ last ∷ [] → IsPartOf words last part → ⊥

-- words are a stretch that follows these ends
pub record IsNextStretch (ends : List ℕ) (words : List (List ℕ)) (next : StretchValue) : Type 0 where
  pub words' : AreStretchWords (length ends) words next
  pub follows : FollowsStretch ends next

-- The stretch that the words are came after the others.
pub record AddsStretch (words : List (List ℕ)) (old new : List StretchValue) (ends ends' : List ℕ) : Type 0 where
  pub next : StretchValue
  pub is : IsNextStretch ends words next
  pub now : new ≡ old ++ next ∷ []
  pub ends'' : ends' ≡ ends_after ends next

-- the words are no stretch that follows these ends
abbrev pub AddsNoStretch : List (List ℕ) → List ℕ → Type 0
AddsNoStretch words ends = (next : StretchValue) → IsNextStretch ends words next → ⊥

-- these are where the last stretch of each copy ends
abbrev pub IsListedTo : List End → List StretchValue → Type 0
IsListedTo ends stretches = map end_of ends ≡ ends_of (length ends) stretches

-- A line more lists more; or with it the lines list nothing.
abbrev pub AddsLine : ℕ → List ℕ → List StretchValue → List StretchValue → Bool → Type 0
AddsLine copies line old new added =
    (lines : List (List ℕ)) → AreListed copies lines old
    → MatchBool added (AreListed copies (lines ++ line ∷ []) new) ((others : List StretchValue) → AreListed copies (lines ++ line ∷ []) others → ⊥)
