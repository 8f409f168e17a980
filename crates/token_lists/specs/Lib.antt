pub mod Next
pub mod AllTokens
pub mod TokensFrom
