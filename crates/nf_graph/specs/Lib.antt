pub mod Graph
pub mod Order
pub mod Found
pub mod Distances
pub mod Steps
pub mod Sets
