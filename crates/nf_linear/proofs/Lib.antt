mod Common
pub mod Fronts
pub mod Taken
pub mod Filled
pub mod Bits
pub mod Covering
pub mod Skips
pub mod Sparse
pub mod Columns
pub mod Changed
pub mod Clearing
pub mod Stages
pub mod Values
pub mod Answered
pub mod Grids
pub mod Noted
pub mod Written
pub mod SmallTables
