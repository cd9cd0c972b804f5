pub mod BlockSteps
pub mod TrackSteps
pub mod SizeSteps
pub mod LaceSteps
pub mod Vectors
pub mod NamedSteps
