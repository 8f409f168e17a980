-- Variables in order, each once, and the table of their places.
use Rattle.std.specs.Prelude.{◌≡◌, ℕ, ◌<◌, ◌≤◌, List, [], ◌∷◌, ◌++◌, length, All, Option, Some, if◌then◌else◌, ◌==◌, not}
use Rattle.std.specs.List.{filter, position, position_or_len, slice_index_or}
use Rattle.body_lang.specs.BodyTree.{BodyTree}
use Rattle.statement_set.specs.declared.statement.Statement.{Statement}
use Rattle.equation_statements.specs.SolvingStatements.{renumbered}

-- how often v stands in a list
abbrev pub times : ℕ → List ℕ → ℕ
times v vs = length (filter (λ u. u == v) vs)

-- v behind the others, unless it is one of them
abbrev pub with_one_more : List ℕ → ℕ → List ℕ
with_one_more vs v = if times v vs == 0 then vs ++ v ∷ [] else vs

-- the table has for each variable where it stands, if it does
pub record HasPlaces (vs : List ℕ) (places : List (Option ℕ)) : Type 0 where
  pub once : (v : ℕ) → times v vs ≤ 1
  pub below : All (λ v. v < 1024) vs
  pub size : length places ≡ 1024
  pub place : (v : ℕ) (d : Option ℕ) → v < 1024 → slice_index_or places v d ≡ position (λ u. u == v) vs

-- the statement for v of an equation over these variables, where t is the equation solved for it
abbrev pub statement_for : List ℕ → ℕ → BodyTree → Statement
statement_for vs v t =
    let inputs = filter (λ w. not (w == v)) vs in
    record {
      inputs = inputs;
      subs = [];
      output = v;
      body = Some (renumbered (λ w. position_or_len (λ u. u == w) inputs) t);
    }
