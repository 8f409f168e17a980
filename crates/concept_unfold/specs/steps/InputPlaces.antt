-- The inputs of a relation, looked up by their names.
use Rattle.std.specs.Prelude.{◌≡◌, ◌↔◌, ℕ, List, length, map, Contains}
use Rattle.std.specs.Str.{bytes_eq}
use Rattle.std.specs.List.{position_or_len}

-- names, each once, with a place for each; and how many places there are
pub record Places : Type 0 where
  pub names : List (List ℕ)
  pub firsts : List ℕ
  pub count : ℕ

-- they are the names among these, and the first place of each
pub record ArePlaces (p : Places) (names : List (List ℕ)) : Type 0 where
  pub same : (name : List ℕ) → Contains p.names name ↔ Contains names name
  pub first : p.firsts ≡ map (λ name. position_or_len (bytes_eq name) names) p.names
  pub count : p.count ≡ length names
