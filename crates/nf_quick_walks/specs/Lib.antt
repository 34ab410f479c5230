pub mod Codes
pub mod Spent
pub mod Refused
pub mod Ways
