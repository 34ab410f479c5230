pub mod Spans
pub mod Reading
pub mod Within
pub mod Places
pub mod Faults
