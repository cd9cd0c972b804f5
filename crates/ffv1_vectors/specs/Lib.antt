pub mod Asked
pub mod Damage
pub mod Spelled
pub mod Frames
pub mod Suite
pub mod Encoder
pub mod SymbolEncoders
pub mod Inner
-- what the clauses cite of the crates below
pub use Rattle.ffv1_bits.specs.Bits
pub use Rattle.ffv1_bits.specs.Parity
pub use Rattle.ffv1_range.specs.Setup
pub use Rattle.ffv1_range.specs.Header
pub use Rattle.ffv1_range.specs.Tiles
pub use Rattle.ffv1_slice.specs.Chain
pub use Rattle.ffv1_slice.specs.Slices
pub use Rattle.ffv1_plane.specs.Picture
