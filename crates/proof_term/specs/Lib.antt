pub mod Proof
pub mod Plain
pub mod Running
pub mod RunExamples
pub mod Bodies
pub mod RunOf
pub mod steps
