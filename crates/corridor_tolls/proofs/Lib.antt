pub mod TollLines
pub mod Given
