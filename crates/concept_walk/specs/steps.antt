-- What only private functions promise.
pub mod Trails
pub mod Bringing
