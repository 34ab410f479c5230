mod Common
pub mod Limits
pub mod Supplied
pub mod TextLines
pub mod Versions
pub mod Built
pub mod StartLabels
pub mod Closes
pub mod WholeText
pub mod LinkLine
