pub mod Vint
pub mod Head
pub mod Children
pub mod Masters
pub mod Contents
pub mod Items
pub mod Whole
pub mod Crc
pub mod CrcElement
pub mod Inner
-- what the clauses cite of the crate below
pub use Rattle.ffv1_bits.specs.Bits
pub use Rattle.ffv1_bits.specs.Parity
