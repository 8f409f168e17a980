-- What only private functions ask for.
pub mod Adding
