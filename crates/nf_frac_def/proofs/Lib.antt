pub mod Readings
pub mod Each
pub mod Binding
pub mod Exact
pub mod Examples
pub mod AtPart
