mod Common
pub mod Stopping
pub mod Folding
pub mod Moving
pub mod Fits
pub mod WholeLengths
pub mod Twigs
pub mod Reading
pub mod FromBehind
pub mod Offering
pub mod Settled
pub mod AnyOrder
pub mod LegByLeg
pub mod Rounding
pub mod Finishing
pub mod Signs
pub mod Chaining
pub mod NodeByNode
