pub mod Amounts
pub mod Points
pub mod Codes
pub mod Beginning
pub mod Standing
pub mod Travels
pub mod Keeping
