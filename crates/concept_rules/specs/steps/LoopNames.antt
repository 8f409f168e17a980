-- The names of loops around a point of a body.
use Rattle.std.specs.Prelude.{ℕ, List, [], ◌∷◌}
use Rattle.concept_rules.specs.declared.loops.Loops.{Loops}
use Rattle.concept_rules.specs.declared.loops.Loops.TheOpen.{Loops-F}
use Rattle.concept_rules.specs.declared.loops.Loops.TheFolds.{fold-Loops}

-- a loop's name before those around it
abbrev pub name_before : Loops-F (List (List ℕ)) → List (List ℕ)
name_before Loops-F.Outermost = []
name_before (Loops-F.Inside name around) = name.now ∷ around.now

-- the names of loops, from the inside
abbrev pub loop_names : Loops → List (List ℕ)
loop_names = fold-Loops (List (List ℕ)) name_before
