pub mod Faults
pub mod InputOf
pub mod MadeOf
pub mod Solves
pub mod TextOf
