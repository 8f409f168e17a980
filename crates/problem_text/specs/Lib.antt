pub mod VariableNames
pub mod BodyText
pub mod StatementText
pub mod ProblemText
pub mod steps
