-- Definitions that no contract of a public call reaches: what loops and private calls keep, so that those contracts can be proved.
pub mod Forms
pub mod HeaderForms
pub mod TableForms
pub mod Views
pub mod SliceHeader
