-- The CRC-32 of a content that comes in pieces (RFC 8794, section 11.3.1).
use Rattle.std.specs.Prelude.{ℕ, ◌≡◌, ◌<◌, List, length, take, drop}
use Rattle.ebml.specs.Crc.{crc32_of}
use Rattle.ebml.specs.CrcElement.{HasCrc32}

-- the first bytes of a content, six at most, and the CRC-32 of those that follow them
pub record CrcSoFar : Type 0 where
  pub front : List ℕ
  pub crc : ℕ

-- So much of a content has come.
pub record RunsOver (content : List ℕ) (so_far : CrcSoFar) : Type 0 where
  pub front : so_far.front ≡ take 6 content
  pub none : length content < 6 → so_far.crc ≡ 0
  pub crc : HasCrc32 content → so_far.crc ≡ crc32_of (drop 6 content)
