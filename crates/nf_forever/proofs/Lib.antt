mod Common
pub mod Joined
pub mod Going
pub mod Told
