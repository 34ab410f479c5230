mod Common
pub mod Flags
pub mod Changing
pub mod Capacities
