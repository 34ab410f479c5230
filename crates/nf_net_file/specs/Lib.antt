pub mod Names
pub mod Reading
pub mod Drafts
pub mod Contents
pub mod Closing
