-- Room for more variables and statements.
use Rattle.std.proofs.Common.{◌≡◌, ℕ, ◌+◌, ◌<◌, ◌≤◌, List, ◌++◌, length, drop, ap, arith, length-append, length-drop}
use Rattle.std.proofs.lemmas.List.{length-map}
use Rattle.utopist_syntax.specs.Named.{Named}
use Rattle.name_sets.specs.Paths.{texts}
use Rattle.concept_walk.specs.Limits.{max_variables}

-- where names are left, there is room for one
pub room_for_one : (names start : List (List ℕ)) (ns : List Named) (i : ℕ) → i < length ns → names ++ texts (drop i ns) ≡ start ++ texts ns → length start + length ns ≤ max_variables → length names < max_variables
room_for_one names start ns i lt e room =
    let f : Named → List ℕ = λ n. n.text in
    omega (arith, ap length e, length-append names (texts (drop i ns)), length-append start (texts ns), length-map (drop i ns) f, length-map ns f, length-drop i ns)
