-- What only private functions promise.
pub mod Places
pub mod Sightings
