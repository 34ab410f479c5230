mod Common
pub mod Trying
pub mod Looping
pub mod Folding
pub mod PointByPoint
pub mod ByNumber
pub mod Known
pub mod Merging
pub mod Stretching
pub mod Testing
pub mod Attaining
pub mod Keeping
