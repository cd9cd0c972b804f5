pub mod WordPaths
pub mod AnyWords
pub mod Grammar
pub mod Arguments
pub mod Inner
-- those by which the paths and the faults of the words are described
pub use Rattle.ffv1_commands.specs.Paths
pub use Rattle.ffv1_commands.specs.Fault
