pub mod Blocks
pub mod Bodies
pub mod Pushes
mod LoopRounds
mod LoopForms
mod LocalPlaces
mod NoCalls
mod RunningSteps
