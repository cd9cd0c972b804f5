-- Definitions that no contract of a public call reaches: what loops and private calls keep, so that those contracts can be proved.
pub mod CellSteps
pub mod Ends
pub mod ListSteps
pub mod PassSteps
pub mod Copies
