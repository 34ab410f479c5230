mod Common
pub mod Pairs
pub mod Taking
pub mod RouteNames
pub mod RouteWords
pub mod RouteLinks
pub mod RouteSteps
pub mod RoutesRead
pub mod Meaning
