mod Common
pub mod Looping
pub mod Meaning
pub mod LaterEnds
