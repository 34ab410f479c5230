pub mod Digits
pub mod Fields
pub mod ReadBack
pub mod Counts
pub mod Bytes
pub mod Faults
pub mod Bounds
pub mod Printing
