mod Common
pub mod Raised
pub mod Store
pub mod Reserve
pub mod Growing
pub mod Decides
pub mod Growth
pub mod Sways
