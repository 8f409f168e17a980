use Rattle.std.proofs.Common.{Some, take}
use Rattle.canonical_paths.specs.steps.Layouts.{inner_paths}
use Rattle.canonical_paths.specs.steps.PathLists.{ForEachLists, AreAliasesOf}
use Rattle.canonical_paths.proofs.aliases.aliases_of.Given as goal

abbrev pub invariant-loop-bind : goal.invariant-loop-bind
invariant-loop-bind l =
    ForEachLists l.layouts l.so_far (λ w. AreAliasesOf w (inner_paths w.concepts (Some l.concept)) (take l.bind-index l.binds) l.aliases.items)
