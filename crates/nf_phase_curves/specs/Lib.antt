pub mod StepCodes
pub mod Growing
pub mod LinkGrowth
pub mod Restoring
pub mod Flows
