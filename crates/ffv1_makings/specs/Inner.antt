-- What the crate's own functions promise one another: no contract of a public function needs these.
pub mod ReadBack
