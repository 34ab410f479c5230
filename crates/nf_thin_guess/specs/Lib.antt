pub mod Guessing
pub mod Values
