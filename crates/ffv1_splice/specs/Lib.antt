pub mod Pieces
pub mod Standings
pub mod Splice
pub mod Faults
pub mod Originals
pub mod Laws
pub mod Whole
pub mod Small
pub mod SmallNotions
pub mod Text
pub mod Inner
-- what the clauses cite of the crates below
pub use Rattle.ffv1_slice.specs.Chain
pub use Rattle.ffv1_slice.specs.Members
pub use Rattle.ffv1_slice.specs.Near
