pub mod CommandLine
pub mod Commands
pub mod MatchViews
pub mod Numbers
pub mod Requests
pub mod RequestViews
pub mod Examples
