pub mod Faults
pub mod FormOf
