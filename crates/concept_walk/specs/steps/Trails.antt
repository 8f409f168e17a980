-- The path of a component, from the inside.
use Rattle.std.specs.Prelude.{ℕ, List, [], ◌∷◌, ◌++◌}
use Rattle.std.specs.List.{flat_map}
use Rattle.canonical_paths.specs.PathNames.{PathNames}
use Rattle.concept_walk.specs.declared.trail.Trail.{Trail}
use Rattle.concept_walk.specs.declared.trail.Trail.TheOpen.{Trail-F}
use Rattle.concept_walk.specs.declared.trail.Trail.TheFolds.{fold-Trail}

-- a name behind those around it
abbrev pub name_behind : Trail-F PathNames → PathNames
name_behind Trail-F.Outermost = []
name_behind (Trail-F.Inside name around) = around.now ++ name.now ∷ []

-- the names of a trail, from the outside
abbrev pub trail_path : Trail → PathNames
trail_path = fold-Trail PathNames name_behind

-- names with a dot behind each
abbrev pub with_dots : PathNames → List ℕ
with_dots p = flat_map (λ n. n ++ 46 ∷ []) p
