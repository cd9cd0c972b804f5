pub mod Crc
pub mod Frame
-- what the clauses cite of the crate below
pub use Rattle.ffv1_bits.specs.Bits
pub use Rattle.ffv1_bits.specs.Parity
