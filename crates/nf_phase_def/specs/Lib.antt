pub mod Restoring
pub mod Open
pub mod ToEnd
