pub mod Lists
pub mod Spelt
pub mod Growth
pub mod Trees
pub mod Models
pub mod Obeys
pub mod Examples
