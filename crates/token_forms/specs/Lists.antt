-- Lists with a separator between their parts, and what may be absent.
use Rattle.std.specs.Prelude.{List, ◌∷◌, [], ◌++◌, Option, Some, None}
use Rattle.std.specs.List.{flat_map}
use Rattle.utopist_lexer.specs.declared.mark.Mark.{Mark}
use Rattle.token_forms.specs.Symbols.{Symbol, mark}

-- part {SEPARATOR part}
pub record OneOrMore (X : Type 0) : Type 0 where
  pub first : X
  pub more : List X

-- all the parts in order
abbrev pub all_of : {X : Type 0} → OneOrMore X → List X
all_of xs = xs.first ∷ xs.more

-- SEPARATOR part
abbrev pub behind : {X : Type 0} → Mark → (X → List Symbol) → X → List Symbol
behind separator spell x = mark separator ∷ spell x

-- part {SEPARATOR part}
abbrev pub separated : {X : Type 0} → Mark → (X → List Symbol) → OneOrMore X → List Symbol
separated separator spell xs = spell xs.first ++ flat_map (behind separator spell) xs.more

-- [form]
abbrev pub spell_option : {X : Type 0} → (X → List Symbol) → Option X → List Symbol
spell_option spell None = []
spell_option spell (Some x) = spell x
