mod Common
pub mod Standings
pub mod RestoreList
pub mod Opened
pub mod Reached
pub mod ShortReached
pub mod Ended
pub mod Stepped
pub mod RunStates
pub mod Found
pub mod PhaseFound
pub mod Going
pub mod Stopping
pub mod ToEnd
pub mod Told
pub mod Rested
