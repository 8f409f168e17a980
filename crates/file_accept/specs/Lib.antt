pub mod Accepted
pub mod Unbuilt
pub mod Refused
pub mod Problems
pub mod steps
