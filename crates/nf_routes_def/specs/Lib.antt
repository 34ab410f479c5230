pub mod Routes
pub mod RoutesFile
pub mod Kept
pub mod RoutesList
pub mod Meanings
pub mod RoutesText
pub mod RuleWords
