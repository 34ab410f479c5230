mod Common
pub mod Flags
pub mod Walks
pub mod Entries
pub mod Searching
pub mod Reaching
pub mod Cycles
pub mod Orders
pub mod ZeroLinks
pub mod Offering
pub mod Settling
pub mod NetworkHops
