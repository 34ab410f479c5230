pub mod Files
pub mod Sorted
