pub mod Cuts
pub mod Layout
pub mod Inner
-- what the clauses cite of the crates below
pub use Rattle.ffv1_range.specs.Setup
pub use Rattle.ffv1_range.specs.Tiles
