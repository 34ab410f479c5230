pub mod Faults
pub mod Names
pub mod Taken
pub mod Writing
pub mod Memory
pub mod Real
