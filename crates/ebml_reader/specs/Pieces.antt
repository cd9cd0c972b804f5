-- Bytes of a source that are passed in pieces.
use Rattle.std.specs.Prelude.{ℕ, ◌+◌, ◌≡◌, ◌<◌, ◌≤◌, ◌⊎◌, IsTrue, List, [], ◌++◌, length, take, drop, Option, Some, None, Result, Ok, Err, Contains}
use Rattle.std.specs.Global.{Vec}
use Rattle.ffv1_devices.specs.Logs.{ReadLog}
use Rattle.ebml.specs.Head.{HasHead}
use Rattle.ebml.specs.Children.{IsElement, BeginsNoChild, AreChildren}
use Rattle.ebml.specs.declared.head.Head.{Head}
use Rattle.ebml.specs.declared.children.Element.{Element}
use Rattle.ebml_reader.specs.declared.fault.ReaderFault.{ReaderFault}
use Rattle.ebml_reader.specs.declared.streamed.PassedContent.{PassedContent}
use Rattle.ebml_reader.specs.Reader.{Held, IsFault}
use Rattle.ebml_reader.specs.Intake.{Passes, IsBounded, Whatever}
use Rattle.ebml_reader.specs.RunningCrc.{CrcSoFar, RunsOver}

-- nothing is left of the file
abbrev pub IsAllPassed : Held → Type 0
IsAllPassed held = (held.bytes ≡ []) × IsTrue held.ended

-- These bytes were passed: so many, or all that were left of the file.
pub record PassesUpTo (count : ℕ) (bytes : List ℕ) (old new : Held) (before after : ReadLog) : Type 0 where
  pub most : length bytes ≤ count
  pub passes : Passes bytes old new before after
  pub bounded : IsBounded new
  pub all : (length bytes ≡ count) ⊎ IsAllPassed new

abbrev pub PassesBytes : ℕ → Result ℕ ReaderFault → Held → Held → ReadLog → ReadLog → Type 0
PassesBytes count (Ok passed) old new before after = (bytes : List ℕ) × (passed ≡ length bytes) × PassesUpTo count bytes old new before after
PassesBytes count (Err fault) old new before after = IsFault fault old.taken before after

abbrev pub TakesBytes : ℕ → Result (Vec ℕ) ReaderFault → Held → Held → ReadLog → ReadLog → Type 0
TakesBytes count (Ok taken) old new before after = PassesUpTo count taken.items old new before after
TakesBytes count (Err fault) old new before after = IsFault fault old.taken before after

-- a CRC-32 that has gone over a content goes over these bytes too
abbrev pub GoesOver : List ℕ → CrcSoFar → CrcSoFar → Type 0
GoesOver bytes crc later = (content : List ℕ) → RunsOver content crc → RunsOver (content ++ bytes) later

abbrev pub PassesSummed : ℕ → Result ℕ ReaderFault → CrcSoFar → CrcSoFar → Held → Held → ReadLog → ReadLog → Type 0
PassesSummed count (Ok passed) crc later old new before after =
    (bytes : List ℕ) × (passed ≡ length bytes) × PassesUpTo count bytes old new before after × GoesOver bytes crc later
PassesSummed count (Err fault) crc later old new before after = IsFault fault old.taken before after

-- ---- children

-- bytes up to a place, or all where there is none
abbrev pub up_to : Option ℕ → List ℕ → List ℕ
up_to None bytes = bytes
up_to (Some n) bytes = take n bytes

-- so many bytes, with a place up to which there are
abbrev pub IsWithinLeft : ℕ → Option ℕ → Type 0
IsWithinLeft n None = Unit {0}
IsWithinLeft n (Some limit) = n ≤ limit

-- A head of a child begins what is left up to a place, and the child ends there by its size; but the file may end before it does.
pub record ClaimsChild (ids : List ℕ) (limit : Option ℕ) (head : Head) (old new : Held) (before after : ReadLog) : Type 0 where
  pub passes : Passes [] old new before after
  pub bounded : IsBounded new
  pub has : HasHead new.bytes head
  pub known : Contains ids head.id
  pub size : ℕ
  pub size_is : head.size ≡ Some size
  pub within : IsWithinLeft (head.length + size) limit
  pub only : Whatever new (λ left. (other : Head) → HasHead (up_to limit left) other → other ≡ head)

-- No child begins what is left up to a place.
pub record HasNoChild (ids : List ℕ) (limit : Option ℕ) (old new : Held) (before after : ReadLog) : Type 0 where
  pub passes : Passes [] old new before after
  pub bounded : IsBounded new
  pub none : Whatever new (λ left. BeginsNoChild ids (up_to limit left))

abbrev pub FindsClaim : List ℕ → Option ℕ → Result (Option Head) ReaderFault → Held → Held → ReadLog → ReadLog → Type 0
FindsClaim ids limit (Ok (Some head)) old new before after = ClaimsChild ids limit head old new before after
FindsClaim ids limit (Ok None) old new before after = HasNoChild ids limit old new before after
FindsClaim ids limit (Err fault) old new before after = IsFault fault old.taken before after

-- A child begins what is left up to a place, and is held.
pub record HoldsChild (ids : List ℕ) (limit : Option ℕ) (child : Element) (old new : Held) (before after : ReadLog) : Type 0 where
  pub passes : Passes [] old new before after
  pub bounded : IsBounded new
  pub some : 0 < child.length
  pub there : child.length ≤ length new.bytes
  pub within : IsWithinLeft child.length limit
  pub known : Contains ids child.head.id
  pub is : IsElement child.head (take child.length new.bytes)

abbrev pub FindsHeld : List ℕ → Option ℕ → Result (Option Element) ReaderFault → Held → Held → ReadLog → ReadLog → Type 0
FindsHeld ids limit (Ok (Some child)) old new before after = HoldsChild ids limit child old new before after
FindsHeld ids limit (Ok None) old new before after = HasNoChild ids limit old new before after
FindsHeld ids limit (Err fault) old new before after = IsFault fault old.taken before after

-- The content of a master of this size was passed, as far as it is there: these children, and what follows them.
pub record PassesMaster (ids : List ℕ) (size : ℕ) (passed : PassedContent) (crc later : CrcSoFar) (old new : Held) (before after : ReadLog) : Type 0 where
  pub content : List ℕ
  pub long : passed.length ≡ length content
  pub passes : PassesUpTo size content old new before after
  pub over : GoesOver content crc later
  pub within : passed.children ≤ length content
  pub children : List (List ℕ)
  pub are : AreChildren ids content children (drop passed.children content)

abbrev pub PassesContent : List ℕ → ℕ → Result PassedContent ReaderFault → CrcSoFar → CrcSoFar → Held → Held → ReadLog → ReadLog → Type 0
PassesContent ids size (Ok passed) crc later old new before after = PassesMaster ids size passed crc later old new before after
PassesContent ids size (Err fault) crc later old new before after = IsFault fault old.taken before after
