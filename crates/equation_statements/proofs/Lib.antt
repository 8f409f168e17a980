pub mod Times
pub mod Firsts
pub mod Places
pub mod Occurring
pub mod Solving
pub mod Counting
