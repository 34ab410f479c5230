mod Common
pub mod Amounts
pub mod Sharing
pub mod Lists
pub mod Greatest
pub mod Folds
pub mod Sound
pub mod Stands
pub mod Here
pub mod Alone
pub mod All
pub mod Travelling
pub mod Knowing
pub mod Repeating
mod Passed
