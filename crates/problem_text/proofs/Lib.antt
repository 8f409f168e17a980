mod Joined
pub mod Names
pub mod Lines
pub mod Counts
pub mod Taken
