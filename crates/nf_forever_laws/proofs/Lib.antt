mod Common
pub mod Before
pub mod Entries
pub mod Steps
pub mod Tails
pub mod Run
pub mod Outcomes
pub mod OneForever
pub mod Stopped
pub mod Cuts
pub mod Endless
pub mod Fitting
pub mod Growth
pub mod Least
pub mod LeastCut
pub mod Labels
