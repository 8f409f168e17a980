-- What only private functions promise.
pub mod DeclaredNames
pub mod LinesOf
pub mod Variables
pub mod Extent
pub mod Points
pub mod Arities
pub mod LoopNames
pub mod InBody
