pub mod Colors
pub mod Views
pub mod Planes
pub mod Inner
