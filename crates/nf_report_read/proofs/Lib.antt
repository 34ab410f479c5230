mod Common
pub mod LineByLine
pub mod Accepted
pub mod Sorting
