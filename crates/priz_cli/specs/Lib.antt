pub mod Reports
pub mod Modes
pub mod Words
pub mod Wordings
pub mod Messages
pub mod Ends
pub mod Statuses
pub mod steps
