mod Common
pub mod Within
pub mod Conserving
pub mod Balances
pub mod LinksAt
pub mod Closing
pub mod Solutions
