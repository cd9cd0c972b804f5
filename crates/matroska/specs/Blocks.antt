-- Blocks, those of SimpleBlocks and of BlockGroups (RFC 9559, section 10).
use Rattle.std.specs.Prelude.{ℕ, ℤ, ◌/◌, ◌%◌, ◌≤◌, ◌≡◌, ◌==◌, if◌then◌else◌, List, [], ◌∷◌, ◌++◌, length}
use Rattle.std.specs.Int.{w16, cast_signed, from_be_bytes}
use Rattle.ffv1_bits.specs.Parity.{AreBytes}
use Rattle.ebml.specs.Vint.{data_of, IsVint}
use Rattle.matroska.specs.declared.block.Block.{Block}
use Rattle.matroska.specs.declared.block.Lacing.{Lacing}
use Rattle.matroska.specs.declared.block.Lacing.TheVariants.{Unlaced, Xiph, Fixed, Ebml}

-- how frames are laced, by the bits of worth 4 and 2 of a block's flags
abbrev pub lacing_of : ℕ → Lacing
lacing_of flags =
    if flags / 2 % 4 == 0 then Unlaced
    else if flags / 2 % 4 == 1 then Xiph
    else if flags / 2 % 4 == 2 then Fixed
    else Ebml

-- a block, without where it lies in memory
pub record BlockValue : Type 0 where
  pub track : ℕ
  pub time : ℤ
  pub lacing : Lacing
  pub payload : List ℕ

abbrev pub block_value : Block → BlockValue
block_value block = record { track = block.track; time = block.time; lacing = block.lacing; payload = block.payload.now }

-- The content of a SimpleBlock or a Block is this block: the track's number, two bytes of time with a sign, a byte of flags, the payload.
pub record IsBlock (content : List ℕ) (block : BlockValue) : Type 0 where
  pub number : List ℕ
  pub high : ℕ
  pub low : ℕ
  pub flags : ℕ
  pub joined : content ≡ number ++ high ∷ low ∷ flags ∷ block.payload
  pub is_vint : IsVint number
  pub short : length number ≤ 8
  pub track : block.track ≡ data_of number
  pub time : block.time ≡ cast_signed w16 (from_be_bytes w16 (high ∷ low ∷ []))
  pub lacing : block.lacing ≡ lacing_of flags

-- ---- laws

-- A content is one block at most.
abbrev pub BlockIsOne : Type 0
BlockIsOne = (content : List ℕ) (a b : BlockValue) → AreBytes content → IsBlock content a → IsBlock content b → a ≡ b
