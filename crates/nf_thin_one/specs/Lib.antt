pub mod Filling
pub mod Trying
pub mod Judging
pub mod Leading
pub mod Fulls
