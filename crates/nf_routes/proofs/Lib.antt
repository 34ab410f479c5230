mod Common
pub mod Whole
