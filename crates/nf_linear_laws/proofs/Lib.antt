mod Common
pub mod Totals
pub mod Steps
pub mod Columns
pub mod Pivots
pub mod Rows
pub mod Elimination
pub mod Solutions
pub mod Forms
pub mod Constraints
pub mod Bounds
pub mod LeastElimination
pub mod Projection
pub mod Least
pub mod Choices
pub mod Exact
