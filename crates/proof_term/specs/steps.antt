-- What only private functions and the kit ask for.
pub mod Coding
pub mod Falls
pub mod HasNoCall
pub mod Agrees
pub mod LocalValues
