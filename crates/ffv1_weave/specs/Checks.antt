-- The tests that distinguish bytes which were not damaged.
use Rattle.std.specs.Prelude.{ℕ, ◌≢◌, List, Any}
use Rattle.ffv1_bits.specs.Parity.{PassesParity, RecordPassesParity}
use Rattle.ebml.specs.CrcElement.{PassesCrc32}
use Rattle.flac_frame.specs.Frame.{PassesFlac}
use Rattle.ffv1_slice.specs.Chain.{IsFramed}
use Rattle.ffv1_weave.specs.declared.check.Check.{Check}
use Rattle.ffv1_weave.specs.declared.check.Check.TheVariants.{Slice, Element, Record, Flac}

-- A slice with its parity: its footer gives its size (RFC 9043, section 4.9.1), and nothing is left of it (section 4.9.3). An element that
-- begins with a right CRC-32 (RFC 8794, section 11.3.1). A Configuration Record of which nothing is left (RFC 9043, section 4.3.2), and which
-- is not all zeros: they pass every parity, and are no record. A FLAC frame whose CRC-8 and CRC-16 are right (RFC 9639, section 9).
abbrev pub PassesBy : Check → List ℕ → Type 0
PassesBy Slice bytes = IsFramed bytes × PassesParity bytes
PassesBy Element bytes = PassesCrc32 bytes
PassesBy Record bytes = RecordPassesParity bytes × Any (λ byte. byte ≢ 0) bytes
PassesBy Flac bytes = PassesFlac bytes

-- Versions are woven by such a check. The 16 bits of a FLAC frame are too few to tell the right one of many combinations.
abbrev pub CanWeave : Check → Type 0
CanWeave Slice = Unit {0}
CanWeave Element = Unit {0}
CanWeave Record = Unit {0}
CanWeave Flac = ⊥
