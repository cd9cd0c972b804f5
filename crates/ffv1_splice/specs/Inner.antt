-- Definitions that no contract of a public call reaches: what loops and private calls keep, so that those contracts can be proved.
pub mod Placing
pub mod Several
pub mod Tally
pub mod Splice
pub mod Claims
