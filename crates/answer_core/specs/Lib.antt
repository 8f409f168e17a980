pub mod Answers
pub mod Report
pub mod Values
pub mod Wordings
pub mod steps
