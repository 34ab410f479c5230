pub mod KeptList
pub mod Routed
pub mod Carried
