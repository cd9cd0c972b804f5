-- Stretches as a text lists them (own): a line for each stretch, and after that of an element one for each of its parts.
use Rattle.std.specs.Prelude.{ℕ, ◌+◌, ◌-◌, ◌≡◌, ◌<◌, ◌≤◌, List, [], ◌∷◌, ◌++◌, Option, Some, None, length, codes}
use Rattle.std.specs.List.{AllZip, slice_get}
use Rattle.std.specs.Option.{option_map_or}
use Rattle.ffv1_bits.specs.Limits.{payload_limit}
use Rattle.ffv1_texts.specs.Lines.{AreLines}
use Rattle.ffv1_texts.specs.Words.{AreWords}
use Rattle.ffv1_texts.specs.Numbers.{IsNumber}
use Rattle.ffv1_mend.specs.declared.kind.Kind.{Kind}
use Rattle.ffv1_mend.specs.declared.kind.Kind.TheVariants.{Frame, Crc32, Record, Flac, Plain}
use Rattle.ffv1_mend.specs.declared.part.Part.{Part}
use Rattle.ffv1_mend.specs.declared.part.Sort.{Sort}
use Rattle.ffv1_mend.specs.declared.part.Sort.TheVariants as sorts
use Rattle.ffv1_stretches.specs.declared.listing.ListFault.{ListFault}
use Rattle.ffv1_stretches.specs.declared.listing.ListFault.TheVariants as faults
use Rattle.ffv1_stretches.specs.Stretches.{StretchValue, HasPlace, FollowsStretch, ends_of}

-- the word of a kind
abbrev pub kind_word : Kind → List ℕ
kind_word Frame = codes "frame"
kind_word Crc32 = codes "crc32"
kind_word Record = codes "record"
kind_word Flac = codes "flac"
kind_word Plain = codes "plain"

-- the word of a part
abbrev pub part_word : List ℕ
part_word = codes "part"

-- the words that say what a part is: none of a frame of FFV1
abbrev pub sort_words : Sort → List (List ℕ)
sort_words sorts.Frame = []
sort_words sorts.Flac = codes "flac" ∷ []

-- A word for a copy: the place at which it has the stretch, or a hyphen where it does not have it.
abbrev pub IsPlaceWord : List ℕ → Option ℕ → Type 0
IsPlaceWord word None = word ≡ codes "-"
IsPlaceWord word (Some place) = IsNumber word place

-- The words of a stretch of so many copies: its kind, how many bytes it has (1 to 2^30), the number of its copy FROM, counted from 1, which
-- has it, and a word for each copy.
pub record AreStretchWords (copies : ℕ) (words : List (List ℕ)) (stretch : StretchValue) : Type 0 where
  pub size_word : List ℕ
  pub from_word : List ℕ
  pub place_words : List (List ℕ)
  pub are : words ≡ kind_word stretch.kind ∷ size_word ∷ from_word ∷ place_words
  pub size : IsNumber size_word stretch.size
  pub some : 0 < stretch.size
  pub few : stretch.size ≤ payload_limit
  pub from : IsNumber from_word (stretch.from + 1)
  pub there : HasPlace stretch.places stretch.from
  pub each : AllZip IsPlaceWord place_words stretch.places
  pub count : length stretch.places ≡ copies
  pub alone : stretch.parts ≡ []

-- The words of a part: `part`, how many bytes of the element stand before it, and how many it has (1 or more).
pub record ArePartWords (words : List (List ℕ)) (part : Part) : Type 0 where
  pub size : ℕ
  pub start_word : List ℕ
  pub size_word : List ℕ
  pub are : words ≡ part_word ∷ start_word ∷ size_word ∷ sort_words part.sort
  pub starts : IsNumber start_word part.start
  pub has : IsNumber size_word size
  pub some : 0 < size
  pub ends : part.end ≡ part.start + size

-- where the last of an element's parts ends; after its own CRC-32 where it has none
abbrev pub end_of_parts : List Part → ℕ
end_of_parts parts = option_map_or (λ part. part.end) (slice_get parts (length parts - 1)) 6

-- A part may follow those that an element has: it begins where the last of them ends or after that, not before the end of the element's
-- CRC-32, and lies within the element.
pub record IsNextPart (stretch : StretchValue) (part : Part) : Type 0 where
  pub element : stretch.kind ≡ Crc32
  pub after : end_of_parts stretch.parts ≤ part.start
  pub within : part.end ≤ stretch.size

-- the stretch with one more part
abbrev pub with_part : StretchValue → Part → StretchValue
with_part stretch part = record stretch { parts = stretch.parts ++ part ∷ [] }

-- Lines list stretches of so many copies: none list none; and with one more line, the stretch that its words are, where it follows all
-- before it, or the last stretch with the part that its words are.
pub data AreListed (copies : ℕ) : List (List ℕ) → List StretchValue → Type 0 where
  none : AreListed copies [] []
  stretch : (lines : List (List ℕ)) (stretches : List StretchValue) (line : List ℕ) (words : List (List ℕ)) (next : StretchValue)
      → AreListed copies lines stretches → AreWords line words → AreStretchWords copies words next → FollowsStretch (ends_of copies stretches) next
      → AreListed copies (lines ++ line ∷ []) (stretches ++ next ∷ [])
  part : (lines : List (List ℕ)) (stretches : List StretchValue) (last : StretchValue) (line : List ℕ) (words : List (List ℕ)) (next : Part)
      → AreListed copies lines (stretches ++ last ∷ []) → AreWords line words → ArePartWords words next → IsNextPart last next
      → AreListed copies (lines ++ line ∷ []) (stretches ++ with_part last next ∷ [])

-- A text lists these stretches.
pub record AreStretches (copies : ℕ) (text : List ℕ) (stretches : List StretchValue) : Type 0 where
  pub lines : List (List ℕ)
  pub are_lines : AreLines text lines
  pub listed : AreListed copies lines stretches

-- This line of the text, counted from 1, is the first with which the lines up to it list no stretches.
pub record IsFirstBadLine (copies : ℕ) (text : List ℕ) (number : ℕ) : Type 0 where
  pub earlier : List (List ℕ)
  pub line : List ℕ
  pub later : List (List ℕ)
  pub are_lines : AreLines text (earlier ++ line ∷ later)
  pub stretches : List StretchValue
  pub good : AreListed copies earlier stretches
  pub bad : (others : List StretchValue) → AreListed copies (earlier ++ line ∷ []) others → ⊥
  pub counted : number ≡ length earlier + 1

-- why a text lists no stretches
abbrev pub IsListFault : ℕ → List ℕ → ListFault → Type 0
IsListFault copies text (faults.Line number) = IsFirstBadLine copies text number
IsListFault copies text faults.Memory = Unit {0}
