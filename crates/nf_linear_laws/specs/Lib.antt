pub mod Solution
pub mod Systems
pub mod LeastLaws
