pub mod Files
pub mod Once
