mod Common
pub mod Points
pub mod Pieces
pub mod Placing
pub mod Sloping
pub mod Walking
pub mod Exits
pub mod Lesser
pub mod Turned
pub mod Differing
pub mod Shortening
pub mod Between
pub mod Composing
pub mod Whole
