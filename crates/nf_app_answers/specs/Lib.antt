pub mod ErrorLines
pub mod QuickText
pub mod GenText
pub mod Answers
pub mod Refusals
pub mod Outcomes
pub use Rattle.nf_phase.specs.Solution
pub use Rattle.nf_routes.specs.Carried
