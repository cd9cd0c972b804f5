pub mod Asked
pub mod Fitting
pub mod Inner
pub mod Makers
-- what the clauses cite of the crates below
pub use Rattle.ffv1_range.specs.Setup
pub use Rattle.ffv1_layout.specs.Layout
pub use Rattle.ffv1_player.specs.Frames
pub use Rattle.ffv1_player.specs.Players
