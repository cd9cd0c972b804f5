pub mod Cutting
pub mod Placing
pub mod Marking
pub mod Layouts
pub mod OneLayout
pub mod OneFault
pub mod Shorts
