use Rattle.std.proofs.Common.{◌≡◌, ◌≤◌, length, map}
use Rattle.token_forms.specs.steps.Steps.{repeat_at}
use Rattle.token_forms.proofs.Loops.{SoFar}
use Rattle.utopist_parser.proofs.entry.repeated.Given as goal

abbrev pub invariant-entries : goal.invariant-entries
invariant-entries g l = record {
  reads : SoFar g.T.Entry.begins (g.T.Entry.step 63) (map g.T.Entry.tree l.found) l.reader.symbols (repeat_at g.T.Entry.begins g.T.Entry.step 63 l.fn.reader.symbols);
  shorter : length l.reader.symbols ≤ length l.fn.reader.symbols;
  text : l.reader.text ≡ l.fn.reader.text;
}

abbrev pub decreases-entries : goal.decreases-entries
decreases-entries g l = length l.reader.symbols
