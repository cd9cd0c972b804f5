-- Where elements of the top begin and end, their CRC-32s (RFC 8794, section 11.3.1), and the DocType of an EBML (section 11.2.6).
use Rattle.std.specs.Prelude.{ℕ, ◌+◌, ◌-◌, ◌<◌, ◌≡◌, ◌⊎◌, Bool, true, false, List, [], ◌∷◌, length, drop, codes, Option, Some, None, option_map}
use Rattle.ebml.specs.Contents.{AreContents}
use Rattle.ebml.specs.CrcElement.{HasCrc32, PassesCrc32}
use Rattle.ebml.specs.Masters.{child_ids}
use Rattle.ebml.specs.declared.head.Head.{Head}
use Rattle.matroska.specs.Tracks.{IsStringOf}
use Rattle.matroska_parts.specs.declared.top_elements.TopElement.{TopElement}
use Rattle.matroska_parts.specs.declared.top_elements.TopElement.TheVariants as tops
use Rattle.matroska_parts.specs.declared.parts.Part.{Part}
use Rattle.matroska_parts.specs.declared.parts.Part.TheVariants as part
use Rattle.matroska_parts.specs.declared.parts.Opening.{Opening}
use Rattle.matroska_parts.specs.declared.parts.Closing.{Closing}
use Rattle.matroska_parts.specs.declared.parts.Crc32.{Crc32}
use Rattle.matroska_parts.specs.declared.parts.Crc32.TheVariants as crc

-- where an element with this head begins, and where it ends by its size
abbrev pub opening_of : ℕ → TopElement → Head → Opening
opening_of place element head = record { place = place; element = element; end = option_map (λ size. place + head.length + size) head.size }

-- it runs past the end of the file: these are the bytes of it that are there
abbrev pub IsCut : Head → List ℕ → Type 0
IsCut head bytes = (size : ℕ) × (head.size ≡ Some size) × (length bytes < head.length + size)

abbrev pub HasOneBy : Option (List ℕ) → List ℕ → Type 0
HasOneBy None content = ⊥
HasOneBy (Some ids) content = HasCrc32 content

-- a master that begins with a CRC-32
abbrev pub HasOne : Head → List ℕ → Type 0
HasOne head content = HasOneBy (child_ids head.id) content

-- how an element of the top stands with its CRC-32
abbrev pub IsCrc32Of : Head → List ℕ → Crc32 → Type 0
IsCrc32Of head bytes crc.Cut = IsCut head bytes
IsCrc32Of head bytes crc.Absent = (IsCut head bytes → ⊥) × (HasOne head (drop head.length bytes) → ⊥)
IsCrc32Of head bytes crc.Passes = (IsCut head bytes → ⊥) × HasOne head (drop head.length bytes) × PassesCrc32 (drop head.length bytes)
IsCrc32Of head bytes crc.Fails = (IsCut head bytes → ⊥) × HasOne head (drop head.length bytes) × (PassesCrc32 (drop head.length bytes) → ⊥)

abbrev pub passes : Crc32 → Bool
passes crc.Passes = true
passes _ = false

abbrev pub closing_of : ℕ → TopElement → Head → List ℕ → Crc32 → Closing
closing_of place element head bytes crc32 =
    record { place = place; element = element; size = length bytes; content = length bytes - head.length; crc32 = crc32 }

-- The content of an EBML has exactly one DocType, and this is its text.
pub record HasDocType (content text : List ℕ) : Type 0 where
  pub name : List ℕ
  pub one : AreContents 0x4282 content (name ∷ [])
  pub text_of : IsStringOf name text

abbrev pub IsMatroskaName : List ℕ → Type 0
IsMatroskaName text = (text ≡ codes "matroska") ⊎ (text ≡ codes "webm")

abbrev pub IsMatroska : List ℕ → Type 0
IsMatroska content = (text : List ℕ) × HasDocType content text × IsMatroskaName text

-- an EBML that is not so is said to be none
abbrev pub AreDocParts : TopElement → ℕ → List ℕ → List Part → Type 0
AreDocParts tops.Ebml place content parts = (IsMatroska content × (parts ≡ [])) ⊎ ((IsMatroska content → ⊥) × (parts ≡ part.NoMatroska place ∷ []))
AreDocParts _ place content parts = parts ≡ []
