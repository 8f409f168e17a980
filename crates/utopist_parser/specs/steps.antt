pub mod Lists
pub mod ReadingExpr
pub mod ReadingFile
pub mod Answers
