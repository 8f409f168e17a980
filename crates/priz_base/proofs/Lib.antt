pub mod Deciding
pub mod Members
pub mod Loops
pub mod Words
pub mod Within
pub mod More
pub mod Pieces
pub mod Kept
