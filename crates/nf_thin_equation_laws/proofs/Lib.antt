pub mod Dots
pub mod Rows
pub mod Packed
pub mod Equations
pub mod Table
