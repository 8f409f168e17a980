-- Natural deduction for intuitionistic propositional logic: no excluded middle, and no double negation.
use Rattle.std.specs.Prelude.{List, ◌∷◌, Contains}
use Rattle.statement_set.specs.Formula.{Formula, falsum, imp, and, or}

-- a tree has a rule at each node, and the formulas that the rule's conclusion does not show
pub data Derivation : Type 0 where
  assume : Derivation
  imp_intro : (t : Derivation) → Derivation
  imp_elim : (A : Formula) (t u : Derivation) → Derivation
  and_intro : (t u : Derivation) → Derivation
  and_left : (B : Formula) (t : Derivation) → Derivation
  and_right : (A : Formula) (t : Derivation) → Derivation
  or_left : (t : Derivation) → Derivation
  or_right : (t : Derivation) → Derivation
  or_elim : (A B : Formula) (t u v : Derivation) → Derivation
  from_false : (t : Derivation) → Derivation

-- the tree derives the formula from the hypotheses
abbrev pub derives : Derivation → List Formula → Formula → Type 0
derives assume H A = Contains H A
derives (imp_intro t) H (imp A B) = derives t (A ∷ H) B
derives (imp_intro t) H _ = ⊥
derives (imp_elim A t u) H B = derives t H (imp A B) × derives u H A
derives (and_intro t u) H (and A B) = derives t H A × derives u H B
derives (and_intro t u) H _ = ⊥
derives (and_left B t) H A = derives t H (and A B)
derives (and_right A t) H B = derives t H (and A B)
derives (or_left t) H (or A B) = derives t H A
derives (or_left t) H _ = ⊥
derives (or_right t) H (or A B) = derives t H B
derives (or_right t) H _ = ⊥
derives (or_elim A B t u v) H C = derives t H (or A B) × derives u (A ∷ H) C × derives v (B ∷ H) C
derives (from_false t) H A = derives t H falsum

-- some tree derives the formula from the hypotheses
abbrev pub Follows : List Formula → Formula → Type 0
Follows H A = (t : Derivation) × derives t H A
