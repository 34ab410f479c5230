pub mod Lines
pub mod Frame
