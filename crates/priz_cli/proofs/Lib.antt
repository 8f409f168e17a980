pub mod Numerals
pub mod Answered
pub mod Modes
pub mod Settling
