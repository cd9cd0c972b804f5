pub mod AskedSets
pub mod StateChanges
pub mod TableSets
