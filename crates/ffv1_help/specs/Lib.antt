pub mod Texts
-- what the clauses cite of the crate below
pub use Rattle.ffv1_devices.specs.Logs
pub use Rattle.ffv1_devices.specs.Results
pub use Rattle.ffv1_devices.specs.Writing
