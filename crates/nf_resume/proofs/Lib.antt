mod Common
pub mod Looping
pub mod Rates
pub mod Ends
pub mod CutFlow
pub mod Resumed
