pub mod Digits
pub mod Numbers
pub mod Printed
pub mod Laws
