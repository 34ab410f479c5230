pub mod Examples
pub mod FlowsExamples
