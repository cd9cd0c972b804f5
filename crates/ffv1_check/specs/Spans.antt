-- Spans of a file that pass a check (own).
use Rattle.std.specs.Prelude.{ℕ, ◌≡◌, ◌≤◌, ◌<◌, ◌+◌, ◌⊎◌, List, [], ◌∷◌, length, take, drop, sum_by}
use Rattle.std.specs.List.{AllByRecursion}
use Rattle.ffv1_bits.specs.Bits.{bits_of}
use Rattle.ffv1_bits.specs.Parity.{AreBytes, remainder_of, RecordPassesParity}
use Rattle.ebml.specs.CrcElement.{PassesCrc32}
use Rattle.matroska.specs.declared.block.Lacing.{Lacing}
use Rattle.matroska.specs.Sound.{IsRightFlac}
use Rattle.matroska_parts.specs.declared.parts.Span.{Span}
use Rattle.ffv1_check.specs.declared.report.Report.{Report}
use Rattle.ffv1_check.specs.Checks.{IsCheckOf}

abbrev pub bytes_at : List ℕ → Span → List ℕ
bytes_at file span = take span.size (drop span.place file)

-- a link with content before its footer, and a right parity
abbrev pub IsPassingLink : List ℕ → Type 0
IsPassingLink bytes = (8 < length bytes) × (remainder_of (bits_of bytes) ≡ 0)

-- The bytes pass a check: they are the content of an element that begins with its CRC-32, a link, the payload of a block of FLAC, or a
-- Configuration Record.
abbrev pub PassCheck : List ℕ → Type 0
PassCheck bytes = PassesCrc32 bytes ⊎ IsPassingLink bytes ⊎ ((lacing : Lacing) × IsRightFlac lacing bytes) ⊎ RecordPassesParity bytes

-- spans follow each other between two places: none begins before the end of the one before it
abbrev pub Follow : (from : ℕ) → List Span → (to : ℕ) → Type 0
Follow from [] to = from ≤ to
Follow from (span ∷ spans) to = (from ≤ span.place) × Follow (span.place + span.size) spans to

-- So many bytes lie in spans that are apart, and pass a check each.
pub record HasChecked (bytes : List ℕ) (size : ℕ) : Type 0 where
  pub spans : List Span
  pub follow : Follow 0 spans (length bytes)
  pub pass : AllByRecursion (λ span. PassCheck (bytes_at bytes span)) spans
  pub sum : size ≡ sum_by (λ span. span.size) spans

-- ---- laws

-- The bytes that a report counts as checked are those of spans of the file that are apart, and pass a check each.
abbrev pub CheckedBytesPass : Type 0
CheckedBytesPass = (file : List ℕ) (report : Report) → AreBytes file → IsCheckOf file report → HasChecked file report.checked
