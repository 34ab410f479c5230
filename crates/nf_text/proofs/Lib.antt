mod Common
pub mod Positions
pub mod Plain
pub mod Parts
pub mod Extents
pub mod LineWords
pub mod LineSteps
pub mod FirstLines
pub mod CursorSteps
pub mod Pushed
