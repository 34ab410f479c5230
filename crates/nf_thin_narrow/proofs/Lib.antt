mod Common
pub mod Entries
pub mod Places
pub mod Standing
pub mod Going
pub mod Capping
pub mod Stepping
pub mod FirmStepping
pub mod Reading
