mod Common
pub mod Same
pub mod CutShort
pub mod CutFlow
pub mod Restarted
pub mod CutPhase
pub mod Restricted
pub mod FirstPlace
pub mod Twice
pub mod Stepping
pub mod TwoParts
pub mod Resting
