pub mod Steps
pub mod Single
pub mod Lists
pub mod Left
pub mod Ahead
pub mod Views
pub mod Answers
pub mod Reading
