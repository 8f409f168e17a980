pub mod Separate
pub mod steps
