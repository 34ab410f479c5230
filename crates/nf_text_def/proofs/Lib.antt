pub mod Samples
pub mod LineParts
