pub mod Ranges
pub mod Conserving
pub mod Stating
pub mod Scaled
pub mod LinksAt
