use Rattle.std.proofs.Common.{◌≡◌, ◌<◌, ℕ, suc, length, slice_index, take}
use Rattle.canonical_paths.specs.steps.Tables.{moved_to}
use Rattle.canonical_paths.proofs.tables.moved.Given as goal

abbrev pub invariant-loop-alias : goal.invariant-loop-alias
invariant-loop-alias l = record {
  count : length l.moved.items ≡ l.count;
  each : (n : ℕ) → n < l.count → slice_index l.moved.items n ≡ moved_to l.table (take l.alias-index l.aliases) (suc (length l.table)) n;
}
