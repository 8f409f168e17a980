use Rattle.std.proofs.Common.{◌+◌, ◌-◌, ◌≤◌, vec_len}
use Rattle.std.specs.Io.KnownBytes.{Consumes}
use Rattle.priz_base.specs.Reading.{max_input}
use Rattle.priz_base.proofs.reading.read_all.Given as goal

abbrev pub invariant-pulls : goal.invariant-pulls
invariant-pulls g l = record {
  taken : Consumes (g.S.Source.left l.fn.source) (g.S.Source.left l.source) l.bytes.items;
  short : vec_len l.bytes ≤ max_input + 1;
  later : g.S.Source.faults l.fn.source ≤ g.S.Source.faults l.source;
}

abbrev pub decreases-pulls : goal.decreases-pulls
decreases-pulls g l = max_input + 1 - vec_len l.bytes
