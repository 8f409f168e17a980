-- What only private functions promise.
pub mod Tables
pub mod Layouts
pub mod PathLists
pub mod Growing
pub mod Fitting
pub mod Settings
pub mod Kinds
pub mod Ready
pub mod AllLayouts
pub mod Marks
