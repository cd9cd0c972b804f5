pub mod Exact
pub mod Logs
pub mod Results
pub mod Streams
pub mod Touching
pub mod Writing
pub mod Inner
