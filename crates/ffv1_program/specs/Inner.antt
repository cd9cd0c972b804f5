-- Definitions that no contract of a public call reaches: what private calls keep, so that those contracts can be proved.
pub mod Calls
pub mod Tries
