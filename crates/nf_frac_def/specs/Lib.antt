pub mod Passing
pub mod Checked
pub mod Work
pub mod Laws
