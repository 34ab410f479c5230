pub mod Tolls
