pub mod BlockText
pub mod WorldText
pub mod steps
