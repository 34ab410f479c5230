mod Common
pub mod Served
pub mod Totals
pub mod Sent
pub mod Repeating
pub mod Printed
pub mod Invariant
pub mod Restored
pub mod RestoredRun
