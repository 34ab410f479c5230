mod Common
pub mod Supplying
pub mod QueueSteps
pub mod ExitSteps
pub mod LoadedCurves
pub mod LoadingSteps
pub mod ExitsInTurn
pub mod OverPieces
pub mod LoadsRead
pub mod Pushed
pub mod TakenOff
pub mod KnownRates
pub mod RatesInTurn
pub mod Alongs
pub mod Pacing
pub mod Leaves
pub mod Outflows
