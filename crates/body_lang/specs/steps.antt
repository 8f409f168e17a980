-- What only private functions and the kit ask for.
pub mod Coding
