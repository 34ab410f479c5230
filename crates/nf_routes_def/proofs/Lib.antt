pub mod Examples
pub mod FileExamples
