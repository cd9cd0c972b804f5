pub mod Stretches
pub mod Listed
pub mod Copies
pub mod Cells
pub mod Lines
pub mod Passes
pub mod Laws
pub mod Inner
