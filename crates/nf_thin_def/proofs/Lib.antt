pub mod Examples
pub mod Patterns
pub mod Runs
pub mod Passing
