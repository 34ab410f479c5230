mod Common
pub mod Growing
pub mod Rounding
pub mod Cycling
