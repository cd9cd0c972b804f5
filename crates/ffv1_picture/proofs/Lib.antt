pub mod Alone
pub mod WholePlanes
pub mod Drawings
pub mod Decoded
pub mod TileFaults
pub mod FrameFaults
pub mod OneFrame
pub mod OneFault
pub mod OnePicture
mod Vectors
