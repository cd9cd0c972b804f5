-- Forms of a slice header (RFC 9043, section 4.6): its fields from left to right, with the first fault that is met.
use Rattle.std.specs.Prelude.{ℕ, zero, suc, Bool, true, false, List, [], ◌∷◌, ◌++◌, Option, Some, None, Result, Ok, Err, if◌then◌else◌}
use Rattle.ffv1_range.specs.Results.{◌>>>◌}
use Rattle.ffv1_range.specs.Coding.{Mode, Coder, bit_at}
use Rattle.ffv1_range.specs.Forms.{Form, ◌>>=◌, giving, apart, lifted_result}
use Rattle.ffv1_range.specs.Reading.{symbol_form}
use Rattle.ffv1_range.specs.Scopes.{accepts_key}
use Rattle.ffv1_range.specs.TableForms.{fresh_row}
use Rattle.ffv1_range.specs.declared.scope.Scope.{Scope}
use Rattle.ffv1_range.specs.declared.coding.RangeFault.{RangeFault}
use Rattle.ffv1_range.specs.declared.head.HeadFault.{HeadFault}
use Rattle.ffv1_range.specs.declared.head.HeadFault.TheVariants.{Range, NotKey}

-- n more unsigned symbols, after those that were read
unfoldable pub symbols_onto : ℕ → List ℕ → Form (List ℕ) (List ℕ) RangeFault
symbols_onto zero done = giving done
symbols_onto (suc n) done = symbol_form >>= λ symbol. symbols_onto n (done ++ symbol ∷ [])

-- so many fields of a header, at a fresh row of states
abbrev pub header_fields : ℕ → Form (Unit {0}) (List ℕ) RangeFault
header_fields count = apart fresh_row (symbols_onto count [])

-- the nine fields of a header where there is no extra plane
abbrev pub fields_form : Form (Unit {0}) (List ℕ) RangeFault
fields_form = header_fields 9

-- the keyframe bit, which stands before the payload's first header, at a state of its own
abbrev pub key_coder : Scope → Bool → Mode → Coder → Result (Option Bool × Coder) HeadFault
key_coder scope false mode c = Ok (None, c)
key_coder scope true mode c =
    lifted_result Range (bit_at mode.closed c 128) >>> λ bit. if accepts_key scope bit.0 then Ok (Some bit.0, bit.1) else Err NotKey

-- What is read of a header before it is judged: the keyframe bit where there is one, the fields, and the coder after them.
pub record HeaderRead : Type 0 where
  pub key : Option Bool
  pub fields : List ℕ
  pub end : Coder

-- the fields, after a keyframe bit
abbrev pub fields_after : Mode → ℕ → Option Bool × Coder → Result HeaderRead HeadFault
fields_after mode count key =
    lifted_result Range (header_fields count mode (record { coder = key.1; states = tt })) >>> λ read.
    Ok (record { key = key.0; fields = read.0; end = read.1.coder })

-- keyframe bit and fields, from where a decoder starts
abbrev pub header_from : Scope → Mode → ℕ → Bool → Coder → Result HeaderRead HeadFault
header_from scope mode count first start = key_coder scope first mode start >>> fields_after mode count
