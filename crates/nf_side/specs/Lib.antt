pub mod NameAt
pub mod Said
pub mod Faults
pub mod Heads
pub mod Drafted
