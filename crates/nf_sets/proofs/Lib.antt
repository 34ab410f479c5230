pub mod Running
pub mod Flags
