mod Common
pub mod NameText
pub mod LineWords
pub mod NodeCounts
pub mod LastPiece
pub mod HeadLine
pub mod ContentLines
pub mod FirstRule
pub mod Marks
pub mod Filling
pub mod FileWalks
pub mod Rates
pub mod LinkNames
