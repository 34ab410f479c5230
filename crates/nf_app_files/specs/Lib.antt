pub mod Files
pub mod Fetching
pub mod Sinks
pub mod Shown
