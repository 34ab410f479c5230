pub mod Grading
