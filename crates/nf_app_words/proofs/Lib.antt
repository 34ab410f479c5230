mod Common
pub mod Faultless
pub mod Taken
pub mod Table
pub mod Files
pub mod Counts
pub mod Asked
