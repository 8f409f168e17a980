-- Finite Kripke models, whose worlds are sets of variables.
use Rattle.std.specs.Prelude.{ℕ, ◌⊎◌, List, Contains}
use Rattle.priz_base.specs.Sets.{IsWithin}
use Rattle.statement_set.specs.Formula.{Formula, atom, falsum, imp, and, or}

-- a world is the set of variables that are true there
abbrev pub World : Type 0
World = List ℕ

-- a world forces a formula in the model whose worlds are L; a world above it has each of its members
abbrev pub forces : List World → World → Formula → Type 0
forces L w (atom v) = Contains w v
forces L w falsum = ⊥
forces L w (imp A B) = (u : World) → Contains L u → IsWithin w u → forces L u A → forces L u B
forces L w (and A B) = forces L w A × forces L w B
forces L w (or A B) = forces L w A ⊎ forces L w B
