pub mod ForcingByPlace
pub mod steps
