-- Definitions that no contract of a public call reaches: what loops and private calls keep, so that those contracts can be proved.
pub mod Stands
pub mod AllReported
pub mod Vouched
pub mod Counted
pub mod TakenParts
