mod PrintableParts
mod PartsPrint
mod Classes
mod Longest
mod Follows
mod Forms
mod PieceForms
mod Spaced
mod ExprForms
mod ItemForms
pub mod FileForms
mod CanonicalForm
mod CanonicalSeen
mod CanonicalWithin
mod SymbolPiece
mod Spelt
mod CanonicalPieces
mod GoodSymbols
mod ReadableExpr
pub mod Readable
mod Likeness
mod ToldExpr
mod Told
mod ReplacedExpr
mod Replaced
pub mod RoundTrip
