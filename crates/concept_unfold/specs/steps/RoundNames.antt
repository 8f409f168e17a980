-- The names of the loops whose rounds hold a point of a body.
use Rattle.std.specs.Prelude.{ℕ, List, [], ◌∷◌}
use Rattle.concept_unfold.specs.declared.rounds.Rounds.{Rounds}
use Rattle.concept_unfold.specs.declared.rounds.Rounds.TheOpen.{Rounds-F}
use Rattle.concept_unfold.specs.declared.rounds.Rounds.TheFolds.{fold-Rounds}

-- a loop's name before those around it
abbrev pub round_before : Rounds-F (List (List ℕ)) → List (List ℕ)
round_before Rounds-F.Outermost = []
round_before (Rounds-F.Inside name around) = name.now ∷ around.now

-- the names of loops, from the inside
abbrev pub round_names : Rounds → List (List ℕ)
round_names = fold-Rounds (List (List ℕ)) round_before
