mod Common
pub mod ErrorTexts
pub mod LoadLines
pub mod QuickLines
pub mod RouteLines
mod ErrorExamples
