-- Definitions that no contract of a public call reaches: what loops and private calls keep, so that those contracts can be proved.
pub mod Groups
pub mod Halts
pub mod PlaneRows
pub mod RangeRows
pub mod RangeLines
pub mod RiceRows
pub mod RiceLines
pub mod Planes
pub mod Orders
pub mod InTurn
pub mod Readers
pub mod Rows
pub mod Sums
pub mod Progress
