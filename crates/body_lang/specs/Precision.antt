-- The two meanings of a body.

-- narrowly: with values of bounded width, and a number of turns; exactly: with neither
pub data Precision : Type 0 where
  narrowly : Precision
  exactly : Precision
