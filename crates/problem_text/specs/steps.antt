-- What only private functions ask for, and what they promise.
pub mod Scopes
pub mod Made
