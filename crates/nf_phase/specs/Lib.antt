pub mod StandingCode
pub mod Faults
pub mod Stepping
pub mod Finding
pub mod OpenRuns
pub mod Solution
pub use Rattle.nf_thin.specs.ThinFlow
