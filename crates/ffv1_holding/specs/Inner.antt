-- Definitions that no contract of a public call reaches: what loops and private calls keep, so that those contracts can be proved.
pub mod Fresh
pub mod PoolEntries
pub mod Reels
pub mod Rows
pub mod Rising
pub mod TileSets
