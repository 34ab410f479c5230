pub mod Codes
pub mod Answered
