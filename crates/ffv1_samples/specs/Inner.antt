-- Definitions that no contract of a public call reaches: what private calls keep, so that those contracts can be proved.
pub mod Headers
pub mod Coded
pub mod Planes
pub mod Sizes
pub mod Faults
pub mod Places
