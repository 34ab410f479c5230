mod Common
pub mod Nothing
pub mod FlowWords
pub mod FlowsRead
pub mod Giving
