mod Common
pub mod Queued
pub mod LinkLoop
pub mod Corners
pub mod Places
pub mod LinkFlows
pub mod OneByOne
pub mod LastSlopes
pub mod Copying
pub mod AtLabels
pub mod Spare
