mod Common
pub mod Wholes
pub mod Ranges
pub mod LadderNames
pub mod LadderNodes
pub mod LadderWalks
pub mod LadderNamed
pub mod Written
pub mod Read
pub mod Pushed
