pub mod InteriorFlags
pub mod Testing
pub mod ThinParts
pub mod NodeSums
pub mod States
