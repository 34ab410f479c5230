pub mod Interior
pub mod Cancelling
pub mod SettledPattern
pub mod ThinList
pub mod Reached
pub mod FlowsFile
pub mod SettleText
pub mod RuleWords
