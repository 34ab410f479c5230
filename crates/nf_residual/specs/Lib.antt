pub mod Lengths
pub mod Ways
pub mod Legs
pub mod Chains
