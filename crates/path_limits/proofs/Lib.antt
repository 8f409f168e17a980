pub mod FirstExtents
pub mod Lines
pub mod PathSums
pub mod SplitLines
pub mod WithinLimits
pub mod Measuring
