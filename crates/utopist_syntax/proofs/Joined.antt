-- Lists written element by element.
use Rattle.std.proofs.Common.{ℕ, Bool, List, [], ◌∷◌, ◌++◌}
use Rattle.std.specs.Prelude.{codes, not}
use Rattle.std.specs.List.{flat_map}
use Rattle.utopist_syntax.specs.Round.{if_needed}
use Rattle.utopist_syntax.specs.ExprTree.{ExprTrees, none, more}
use Rattle.utopist_syntax.specs.ExprText.{text_at, more_args_text}
use Rattle.utopist_syntax.specs.declared.position.Position.TheVariants.{Alone}

-- what is left to write of a joined list, of which the first element may be among it
abbrev pub left_by : {X : Type 0} → (X → List ℕ) → List ℕ → Bool → List X → List ℕ
left_by f between first [] = []
left_by f between first (x ∷ xs) = (if_needed (not first) between ++ f x) ++ flat_map (λ y. between ++ f y) xs

-- what is left to write of arguments
abbrev pub left_args : Bool → ExprTrees → List ℕ
left_args first none = []
left_args first (more a rest) = (if_needed (not first) (codes ", ") ++ text_at Alone a) ++ more_args_text rest
