-- Definitions that no contract of a public call reaches: what loops and private calls keep, so that those contracts can be proved.
pub mod Lines
pub mod Devices
pub mod Formats
pub mod Holdings
pub mod JoinText
pub mod TakeText
pub mod Inputs
pub mod Pictures
