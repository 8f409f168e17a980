-- What only private functions ask for.
pub mod InputPlaces
pub mod RoundNames
pub mod Plain
pub mod PlainFile
