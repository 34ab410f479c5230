pub mod Kept
pub mod Supply
pub mod Printing
pub mod Building
