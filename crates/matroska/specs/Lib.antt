pub mod Blocks
pub mod Tracks
pub mod NamedTracks
pub mod Laces
pub mod Sound
pub mod Inner
