mod Common
pub mod WalkByWalk
pub mod SpentLinks
pub mod OnePush
pub mod GrowingWays
