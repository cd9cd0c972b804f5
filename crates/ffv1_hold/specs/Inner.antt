-- Definitions that no contract of a public call reaches: what loops and private calls keep, so that those contracts can be proved.
pub mod Merging
pub mod ReadOrigins
pub mod FileEntries
pub mod FileFaults
pub mod MergeLogs
pub mod Reading
pub mod Saving
