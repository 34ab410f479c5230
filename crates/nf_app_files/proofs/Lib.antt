pub mod Fetched
pub mod Networks
pub mod Statuses
