mod Common
pub mod Answering
