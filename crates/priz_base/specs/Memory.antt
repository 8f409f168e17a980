-- What a stream over memory is seen as.
use Rattle.std.specs.Prelude.{ℕ, List}

-- a source that never fails: the bytes not yet given, and how many a call gives at most
pub record Sure : Type 0 where
  pub left : List ℕ
  pub most : ℕ

-- a source with its bytes not yet given: how many a call gives at most, the numbers of the calls that fail, the
-- number of the next call, and how often it has failed
pub record Failing : Type 0 where
  pub left : List ℕ
  pub most : ℕ
  pub fails : List ℕ
  pub calls : ℕ
  pub faults : ℕ

-- a sink with room for so many bytes: the numbers of the calls that fail, the number of the next call, and how
-- often it has failed
pub record Holding : Type 0 where
  pub written : List ℕ
  pub room : ℕ
  pub most : ℕ
  pub fails : List ℕ
  pub calls : ℕ
  pub faults : ℕ
