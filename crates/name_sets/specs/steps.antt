-- What only private functions ask for.
pub mod Nodes
pub mod Edges
pub mod PathEnds
