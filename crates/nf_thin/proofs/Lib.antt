mod Common
pub mod Searched
pub mod FoundThin
pub mod Looping
pub mod NoCycle
pub mod LedSlopes
pub mod Refusing
pub mod Narrowing
pub mod FoundBy
