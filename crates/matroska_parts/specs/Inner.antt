-- Definitions that no contract of a public call reaches: what loops and private calls keep, so that those contracts can be proved.
pub mod Added
pub mod Firsts
pub mod PartsSoFar
pub mod Inside
pub mod Vouched
