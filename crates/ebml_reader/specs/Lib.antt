pub mod Reader
pub mod Intake
pub mod RunningCrc
pub mod Pieces
pub mod Starts
pub mod Inner
