pub mod Content
pub mod Passing
pub mod Improved
pub mod Mended
pub mod Laws
pub mod Small
pub mod SmallNotions
pub mod Inner
-- what the clauses cite of the crates below
pub use Rattle.ffv1_bits.specs.Bits
pub use Rattle.ffv1_bits.specs.Parity
pub use Rattle.ebml.specs.Crc
pub use Rattle.ebml.specs.CrcElement
pub use Rattle.flac_frame.specs.Frame
pub use Rattle.ffv1_slice.specs.Chain
pub use Rattle.ffv1_slice.specs.Members
pub use Rattle.ffv1_weave.specs.Checks
pub use Rattle.ffv1_weave.specs.Regions
pub use Rattle.ffv1_weave.specs.Combinations
pub use Rattle.ffv1_weave.specs.Weave
pub use Rattle.ffv1_weave.specs.Parts
pub use Rattle.ffv1_weave.specs.Laws as WeaveLaws
pub use Rattle.ffv1_splice.specs.Pieces
pub use Rattle.ffv1_splice.specs.Standings
pub use Rattle.ffv1_splice.specs.Splice
pub use Rattle.ffv1_splice.specs.Whole
