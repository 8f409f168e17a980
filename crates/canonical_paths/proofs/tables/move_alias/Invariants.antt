use Rattle.std.proofs.Common.{◌≡◌, ℕ, length, slice_index}
use Rattle.canonical_paths.specs.steps.Tables.{move_by}
use Rattle.canonical_paths.proofs.tables.move_alias.Given as goal

abbrev pub invariant-loop-k : goal.invariant-loop-k
invariant-loop-k l = record {
  count : length l.moved ≡ length l.fn.moved;
  each : (n : ℕ) → slice_index l.moved n ≡ move_by l.table n (slice_index l.fn.moved n) (record l.alias { size = l.k });
}
