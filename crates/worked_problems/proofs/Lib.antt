pub mod Distinct
pub mod Totals
pub mod Added
pub mod WorldLists
pub mod BlockTrees
