pub mod Visits
pub mod Dotted
pub mod Limits
pub mod Walks
pub mod KnownItems
pub mod steps
