-- What a call to an encoder of symbols leaves as it was.
use Rattle.std.specs.Prelude.{◌≡◌, List, ℕ, None}
use Rattle.ffv1_range.specs.Decoder.{AreStates}
use Rattle.ffv1_vectors.specs.declared.encoder.SymbolEncoder.{SymbolEncoder}

-- The encoder is what it was.
pub record HasWrittenNothing (old new : SymbolEncoder) : Type 0 where
  pub interval : new.interval ≡ old.interval
  pub bytes : new.bytes.items ≡ old.bytes.items

-- By the default table a row's states stay in 8..=248.
abbrev pub KeepsBitStates : SymbolEncoder → (old new : List ℕ) → Type 0
KeepsBitStates encoder old new = encoder.successors ≡ None → AreStates old → AreStates new
