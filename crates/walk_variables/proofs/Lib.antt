pub mod Placing
pub mod WalkedNumbers
pub mod Looking
