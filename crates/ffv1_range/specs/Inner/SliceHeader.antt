-- How a slice of any recording goes on after its header, from the decoder that read it.
use Rattle.std.specs.Prelude.{◌≡◌, ◌≢◌, ℕ, Result, Ok, Err}
use Rattle.ffv1_range.specs.Decoder.{Reader, EndsAt}
use Rattle.ffv1_range.specs.Setup.{RecordingValue}
use Rattle.ffv1_range.specs.declared.coding.RangeFault.{RangeFault}
use Rattle.ffv1_range.specs.declared.head.HeadFault.{HeadFault}
use Rattle.ffv1_range.specs.declared.head.HeadFault.TheVariants.{Range}
use Rattle.ffv1_range.specs.declared.head.SliceStart.{SliceStart}
use Rattle.ffv1_range.specs.declared.head.SliceStart.TheVariants.{Codes, Samples}

-- A call made the rest of a slice of a decoder.
abbrev pub FollowsDecoder : RecordingValue → Reader → Result SliceStart HeadFault → Type 0
FollowsDecoder recording r (Ok (Codes place)) = (recording.coder ≡ 0) × EndsAt r (Ok place)
FollowsDecoder recording r (Ok (Samples decoder)) = (recording.coder ≢ 0) × (decoder ≡ r)
FollowsDecoder recording r (Err fault) = (recording.coder ≡ 0) × (e : RangeFault) × (fault ≡ Range e) × EndsAt r (Err e)

-- A call read the bit that ends a header's coding, with Golomb-Rice codes.
abbrev pub EndsHeader : RecordingValue → Reader → Result (Unit {0}) HeadFault → Type 0
EndsHeader recording r (Ok _) = recording.coder ≡ 0 → (place : ℕ) × EndsAt r (Ok place)
EndsHeader recording r (Err fault) = (recording.coder ≡ 0) × (e : RangeFault) × (fault ≡ Range e) × EndsAt r (Err e)
