pub mod StatementTree
pub mod Problem
pub mod Formula
pub mod Derivation
pub mod Goal
pub mod Forcing
pub mod Countermodel
pub mod Worked
