-- Counts within the limits.
use Rattle.std.proofs.Common.{◌≡◌, ℕ, suc, ◌+◌, ◌<◌, ◌≤◌, true, false, List, Some, Ok, length, min, sym, ap, ◌∙◌, subst, arith}
use Rattle.std.specs.Prelude.{slice_get, nat_le}
use Rattle.std.proofs.lemmas.Bool.{leb-true, le-leb, lt-leb}
use Rattle.std.proofs.lemmas.Option.{same_Some}
use Rattle.body_lang.proofs.Verdicts.{second_passes, test_passes}
use Rattle.utopist_syntax.specs.Named.{Named}
use Rattle.utopist_syntax.specs.FileTree.{ConceptTree}
use Rattle.canonical_paths.specs.Components.{declared_in, HasFewPaths}
use Rattle.canonical_paths.specs.Limits.{max_declared}
use Rattle.path_limits.specs.PathLimits.{path_limits}

-- a count that is stopped one past the most tells whether there are more
pub over : (n most count : ℕ) → count ≡ min n (most + 1) → most < count → nat_le n most ≡ false
over n most count is more = lt-leb n most (omega (arith, is, more))

pub within : (n most count : ℕ) → count ≡ min n (most + 1) → count ≤ most → nat_le n most ≡ true
within n most count is le = le-leb n most (omega (arith, is, le))

-- what passes both limits has few paths
pub few_paths : (named : Named) (all : List ConceptTree) (n : ℕ) (c : ConceptTree) → slice_get all n ≡ Some c → path_limits named (declared_in all c) ≡ Ok tt → HasFewPaths all n
few_paths named all n c is ok d at =
    let same : c ≡ d = same_Some c d (sym is ∙ at) in
    let few = leb-true (length (declared_in all c)) max_declared (test_passes (nat_le (length (declared_in all c)) max_declared) _ (second_passes _ _ ok)) in
    subst (λ (x : ConceptTree). length (declared_in all x) ≤ max_declared) same few
