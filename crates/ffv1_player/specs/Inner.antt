-- Definitions that no contract of a public call reaches: what private calls keep, so that those contracts can be proved.
pub mod Drawing
pub mod Decoding
pub mod Playing
pub mod PlaySteps
pub mod Showing
