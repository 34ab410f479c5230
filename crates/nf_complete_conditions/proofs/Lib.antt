mod Common
pub mod ExitsTaken
pub mod ThinFlows
pub mod Interiors
pub mod Folds
pub mod Deciding
pub mod Telling
pub mod LinkByLink
pub mod Balancing
pub mod Filling
pub mod LinkAnswers
pub mod Stating
