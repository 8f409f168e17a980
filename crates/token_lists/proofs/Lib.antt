mod Tables
mod Runs
mod FrontTokens
mod Names
mod Numbers
mod OutputNumbers
mod Calls
mod MarkTokens
mod Fronts
mod Gaps
pub mod Next
mod LexerAnswers
pub mod Readings
pub mod Steps
