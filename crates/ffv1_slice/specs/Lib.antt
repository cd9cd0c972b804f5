pub mod Chain
pub mod Members
pub mod Walk
pub mod Ending
pub mod Slices
pub mod Keyframes
pub mod Near
-- what the clauses cite of the crates below
pub use Rattle.ffv1_bits.specs.Bits
pub use Rattle.ffv1_bits.specs.Parity
pub use Rattle.ffv1_range.specs.Setup
pub use Rattle.ffv1_range.specs.TileHeaders
pub use Rattle.ffv1_range.specs.Frames
