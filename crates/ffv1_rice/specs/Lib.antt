pub mod Codes
pub mod Runs
pub mod States
pub mod Inner
