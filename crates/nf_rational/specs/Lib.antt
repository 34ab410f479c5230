pub mod Gcd
pub mod Rational
pub mod Operations
pub mod Order
pub mod Signs
