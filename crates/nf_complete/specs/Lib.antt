pub mod Settling
pub mod NextCycles
pub mod FitSets
