pub mod Ranges
pub mod Verdicts
pub mod Scans
pub mod Steps
pub mod Inner
