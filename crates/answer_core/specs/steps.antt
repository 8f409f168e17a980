-- What only private functions ask for.
pub mod Found
pub mod Named
