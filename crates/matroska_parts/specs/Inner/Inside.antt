-- The content of an element of the top that is no Cluster, when it was passed.
use Rattle.std.specs.Prelude.{ℕ, ◌+◌, ◌≡◌, ◌≤◌, if◌then◌else◌, Bool, List, [], ◌∷◌, length, drop, Result, Ok, Err}
use Rattle.ffv1_devices.specs.Logs.{ReadLog}
use Rattle.ebml_reader.specs.Reader.{Held, IsFault}
use Rattle.ebml_reader.specs.RunningCrc.{CrcSoFar}
use Rattle.ebml_reader.specs.Pieces.{PassesUpTo, GoesOver}
use Rattle.ebml_reader.specs.declared.fault.ReaderFault.{ReaderFault}
use Rattle.matroska.specs.declared.track.Track.{Track}
use Rattle.matroska_parts.specs.MasterParts.{unknown_parts, AreContentParts}
use Rattle.matroska_parts.specs.Openings.{AreDocParts}
use Rattle.matroska_parts.specs.declared.top_elements.TopElement.{TopElement}
use Rattle.matroska_parts.specs.declared.parts.Part.{Part}
use Rattle.matroska_parts.specs.declared.parts.Part.TheVariants as part
use Rattle.matroska_parts.specs.declared.elements.Inside.{Inside}

-- what is said of the DocType
abbrev pub doc_parts : Bool → ℕ → List Part
doc_parts is_matroska place = if is_matroska then [] else part.NoMatroska place ∷ []

-- What is known of the content of such an element: it has no parts but what is unknown, and what is said of its DocType.
pub record IsInsideOf (id : ℕ) (element : TopElement) (content : List ℕ) (inside : Inside) : Type 0 where
  pub long : inside.length ≡ length content
  pub within : inside.children ≤ length content
  pub parts : (tracks : List Track) (vouched : Bool) (place : ℕ)
      → AreContentParts id tracks vouched place content (unknown_parts (place + inside.children) (drop inside.children content))
  pub doc : (place : ℕ) → AreDocParts element place content (doc_parts inside.is_matroska place)

pub record InsidePassed (id : ℕ) (element : TopElement) (size : ℕ) (inside : Inside) (crc later : CrcSoFar) (old new : Held) (before after : ReadLog) : Type 0 where
  pub content : List ℕ
  pub is : IsInsideOf id element content inside
  pub passes : PassesUpTo size content old new before after
  pub over : GoesOver content crc later

abbrev pub PassesInside : ℕ → TopElement → ℕ → Result Inside ReaderFault → CrcSoFar → CrcSoFar → Held → Held → ReadLog → ReadLog → Type 0
PassesInside id element size (Ok inside) crc later old new before after = InsidePassed id element size inside crc later old new before after
PassesInside id element size (Err fault) crc later old new before after = IsFault fault old.taken before after
