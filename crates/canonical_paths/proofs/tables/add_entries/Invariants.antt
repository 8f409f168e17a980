use Rattle.std.proofs.Common.{◌≡◌, ◌++◌, take}
use Rattle.canonical_paths.specs.steps.Tables.{component_entries}
use Rattle.canonical_paths.proofs.tables.add_entries.Given as goal

abbrev pub invariant-loop-n : goal.invariant-loop-n
invariant-loop-n l =
    l.table ≡ l.fn.table ++ component_entries l.fn.table l.aliases (take l.n-index l.inside)
