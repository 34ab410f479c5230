pub mod ReadableLaws
pub mod VerdictLaws
pub mod ResumedLaws
pub mod ResumedReports
pub mod ThinFlows
pub mod Stops
pub mod Sequences
