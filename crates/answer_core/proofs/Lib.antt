pub mod Left
pub mod Learnt
pub mod Bodiless
pub mod Numbers
