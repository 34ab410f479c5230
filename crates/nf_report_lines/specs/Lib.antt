pub mod Keys
pub mod Drafts
pub mod Entries
pub mod Lines
