-- What a path is looked up in.
use Rattle.std.specs.Prelude.{◌≡◌, Some, reverse}
use Rattle.utopist_syntax.specs.declared.path.Path.{Path}
use Rattle.utopist_syntax.specs.declared.item.VarKind.TheVariants.{Numeric}
use Rattle.concept_rules.specs.Kinds.{kind_of_path}
use Rattle.canonical_paths.specs.PathNames.{PathNames}
use Rattle.concept_walk.specs.Walks.{IsWalk, IsPlace, concepts_of, items_in}
use Rattle.walk_variables.specs.declared.site.Site.{Site}
use Rattle.walk_variables.specs.Numbering.{AreVariableNumbers}

-- a component of a walk with its numbers
pub record IsSite (s : Site) : Type 0 where
  pub walk : IsWalk s.walk.now
  pub numbers : AreVariableNumbers s.walk.now s.numbers.now
  pub at : PathNames
  pub place : IsPlace s.walk.now s.concept s.start at

-- the path is known in its concept, and numeric
abbrev pub IsNumericHere : Site → Path → Type 0
IsNumericHere s p =
    kind_of_path (reverse (concepts_of s.walk.now)) (items_in s.walk.now s.concept) p.parts
    ≡ Some Numeric
