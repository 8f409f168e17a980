-- The values of the loops around a point of a body.
use Rattle.std.specs.Prelude.{List, [], ◌∷◌, ◌++◌}
use Rattle.priz_frac.specs.Ratio.{Ratio}
use Rattle.proof_term.specs.declared.locals.Locals.{Locals}
use Rattle.proof_term.specs.declared.locals.Locals.TheOpen.{Locals-F}
use Rattle.proof_term.specs.declared.locals.Locals.TheFolds.{fold-Locals}

-- a loop's value behind those around it
abbrev pub value_inside : Locals-F (List Ratio) → List Ratio
value_inside Locals-F.Outermost = []
value_inside (Locals-F.Inside value around) = around.now ++ value ∷ []

-- the values of loops, outermost first
abbrev pub local_values : Locals → List Ratio
local_values = fold-Locals (List Ratio) value_inside
