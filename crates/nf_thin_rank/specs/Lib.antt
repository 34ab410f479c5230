pub mod Questions
pub mod Firming
pub mod Posing
pub mod Families
pub mod Keeping
