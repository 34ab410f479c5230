mod Common
pub mod Parts
pub mod Written
pub mod Gathering
pub mod Entries
