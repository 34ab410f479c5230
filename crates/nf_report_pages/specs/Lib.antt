pub mod Written
pub mod Pages
