pub mod Below
pub mod Greatest
pub mod Arrivals
pub mod Deadlines
pub mod RouteArrivals
pub mod Supplies
