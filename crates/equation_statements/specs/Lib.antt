pub mod SolvingStatements
pub mod Examples
pub mod Laws
pub mod steps
