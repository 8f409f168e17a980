pub mod Symbols
pub mod Forms
pub mod Lists
pub mod steps
