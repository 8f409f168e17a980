use Rattle.std.proofs.Common.{◌≡◌, ◌<◌, ◌+◌, ℕ, length, slice_index}
use Rattle.canonical_paths.proofs.tables.unmoved.Given as goal

abbrev pub invariant-loop-n : goal.invariant-loop-n
invariant-loop-n l = record {
  count : length l.numbers.items ≡ l.n;
  each : (k : ℕ) → k < l.n → slice_index l.numbers.items k ≡ l.start + k;
}
