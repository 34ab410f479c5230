mod Common
pub mod Posed
pub mod Asking
pub mod Early
pub mod Keepers
pub mod Members
pub mod Covers
