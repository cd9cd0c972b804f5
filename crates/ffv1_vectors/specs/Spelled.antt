-- What a made slice is (RFC 9043, sections 4.5, 4.6 and 4.9): a header that reads back, codes, and a footer.
use Rattle.std.specs.Prelude.{◌≡◌, ◌+◌, ◌<◌, ◌++◌, ℕ, Bool, false, List, length, Ok}
use Rattle.std.specs.Bool.{MatchBool}
use Rattle.ffv1_bits.specs.Parity.{PassesParity}
use Rattle.ffv1_range.specs.Coding.{Coder, bit_at, start_of, header_mode}
use Rattle.ffv1_range.specs.HeaderForms.{fields_form}
use Rattle.ffv1_slice.specs.Chain.{IsFramed, status_before}

-- A content reads as a keyframe bit where it is the payload's first, nine fields, and the bit that ends them; the codes
-- begin at this place, one byte before those that the range decoder has not read.
pub record ReadsAs (content : List ℕ) (first key : Bool) (fields : List ℕ) (place : ℕ) : Type 0 where
  pub start : Coder
  pub started : start_of false content ≡ Ok start
  pub after_key : Coder
  pub key_read : MatchBool first (bit_at false start 128 ≡ Ok (key, after_key)) (after_key ≡ start)
  pub end : Coder
  pub fields_read : fields_form header_mode (record { coder = after_key; states = tt }) ≡ Ok (fields, record { coder = end; states = tt })
  pub last : Bool × Coder
  pub ended : bit_at false end 129 ≡ Ok last
  pub at : place + 1 + length last.1.rest ≡ length content

-- The bytes are a slice: a header that reads as these fields, these codes, and a footer with the size and this status.
pub record IsSpelled (bytes : List ℕ) (first key : Bool) (fields codes : List ℕ) (status : ℕ) : Type 0 where
  pub head : List ℕ
  pub footer : List ℕ
  pub joined : bytes ≡ (head ++ codes) ++ footer
  pub footer_length : length footer ≡ 8
  pub some_codes : 0 < length codes
  pub header : ReadsAs (head ++ codes) first key fields (length head)
  pub passes : PassesParity bytes
  pub framed : IsFramed bytes
  pub has_status : status_before bytes (length bytes) ≡ status
