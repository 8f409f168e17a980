-- Files within a limit on the nesting of their expressions, and with arithmetic on the sides of their equations.
use Rattle.std.specs.Prelude.{◌≤◌, ℕ, All, Option, Some, None}
use Rattle.utopist_parser.specs.Written.{Expression, Chain}
use Rattle.utopist_parser.specs.WrittenFile.{WrittenItem, var, eq, rel, WrittenConcept, WrittenFile}
use Rattle.utopist_parser.specs.Nesting.{nest_expr, nest_chain}
use Rattle.utopist_parser.specs.Arithmetic.{IsArith}

-- a side of an equation: arithmetic within the limit
abbrev pub IsSide : ℕ → Chain → Type 0
IsSide limit c = (nest_chain c ≤ limit) × IsArith c

-- the body, where there is one, is within the limit
abbrev pub IsBody : ℕ → Option Expression → Type 0
IsBody limit None = Unit {0}
IsBody limit (Some e) = nest_expr e ≤ limit

-- an item within the limit
abbrev pub IsItem : ℕ → WrittenItem → Type 0
IsItem limit (var ns kind) = Unit {0}
IsItem limit (eq left right) = IsSide limit left × IsSide limit right
IsItem limit (rel n parts output body) = IsBody limit body

-- a concept, each item of which is within the limit
abbrev pub IsConcept : ℕ → WrittenConcept → Type 0
IsConcept limit c = All (IsItem limit) c.items

-- a file, each concept of which is within the limit
abbrev pub IsFile : ℕ → WrittenFile → Type 0
IsFile limit f = All (IsConcept limit) f.concepts
