pub mod SegmentLimit
pub mod PathLimits
pub mod Extents
pub mod steps
