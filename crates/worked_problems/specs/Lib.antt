pub mod Rows
pub mod Faults
pub mod BlockRows
pub mod WorldRows
