pub mod NamesOf
pub mod WordCounts
pub mod LineWords
pub mod HeadWords
pub mod Frame
