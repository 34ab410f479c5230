mod Common
pub mod Supplies
pub mod Balanced
pub mod Beginning
pub mod Exists
