pub mod Unfolds
pub mod Steps
pub mod OneCause
pub mod UnbuiltTokens
pub mod Watched
mod BodyForms
pub mod BuiltForms
