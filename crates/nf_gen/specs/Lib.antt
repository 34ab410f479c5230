pub mod Ladder
pub mod Writing
pub mod Laws
