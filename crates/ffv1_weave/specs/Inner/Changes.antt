-- What choices change of what is left of bytes. It is a sum, so the changes of choices in different places add up.
use Rattle.std.specs.Prelude.{ℕ, ◌/◌, ◌%◌, List, [], ◌∷◌, map, length, slice_index, bit_xor}
use Rattle.ffv1_bits.specs.Bits.{bits_of}
use Rattle.ffv1_bits.specs.Parity.{remainder_of}
use Rattle.ebml.specs.CrcElement.{element_left}
use Rattle.ffv1_weave.specs.Inner.Parts.{Part}
use Rattle.ffv1_weave.specs.Parts.{written}
use Rattle.ffv1_weave.specs.declared.check.Check.{Check}
use Rattle.ffv1_weave.specs.declared.check.Check.TheVariants.{Slice, Element, Record, Flac}

-- What is left of bytes, which is 0 where they pass: of a slice and of a record the parity's remainder, of an element the CRC-32's. No
-- versions are woven by the check of a FLAC frame, and nothing is taken to be left of it.
abbrev pub remainder_in : Check → List ℕ → ℕ
remainder_in Slice bytes = remainder_of (bits_of bytes)
remainder_in Element bytes = element_left bytes
remainder_in Record bytes = remainder_of (bits_of bytes)
remainder_in Flac bytes = 0

-- what a byte string changes of the remainder of bytes, where it is written over them
abbrev pub change_of : Check → List ℕ → ℕ → List ℕ → ℕ
change_of check bytes start choice = bit_xor (remainder_in check (written bytes start choice)) (remainder_in check bytes)

-- what each choice of a part changes
abbrev pub changes_of : Check → List ℕ → Part → List ℕ
changes_of check bytes part = map (change_of check bytes part.start) part.choices

-- The remainder with the changes of a combination, by its number, as `chosen` writes its choices.
abbrev pub changed : List (List ℕ) → ℕ → ℕ → ℕ
changed [] code register = register
changed (changes ∷ tables) code register =
    changed tables (code / length changes) (bit_xor register (slice_index changes (code % length changes)))
