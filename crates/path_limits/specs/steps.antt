-- What only private functions promise.
pub mod Measured
