mod Common
pub mod KeyNumbers
pub mod WordCounts
pub mod DraftSteps
pub mod LastPoints
pub mod BodyLines
pub mod PlainNumbers
pub mod HeadLines
