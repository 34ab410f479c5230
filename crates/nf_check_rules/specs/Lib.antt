pub mod Trials
pub mod Points
pub mod Kept
pub mod Views
pub mod Sent
pub mod Steps
pub mod Departures
pub mod Exits
