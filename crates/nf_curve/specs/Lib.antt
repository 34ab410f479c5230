pub mod Points
pub mod Flows
pub mod Sides
pub mod Places
pub mod Moments
pub mod Steps
pub mod Differences
pub mod Slopes
