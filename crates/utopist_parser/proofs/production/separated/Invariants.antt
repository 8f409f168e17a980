use Rattle.std.proofs.Common.{◌≡◌, ◌<◌, length}
use Rattle.token_forms.proofs.Starts.{Separated}
use Rattle.utopist_parser.proofs.production.separated.Given as goal

abbrev pub invariant-forms : goal.invariant-forms
invariant-forms g l = record {
  reads : Separated l.separator g.T.Production.step l.found l.reader.symbols l.fn.reader.symbols;
  shorter : length l.reader.symbols < length l.fn.reader.symbols;
  text : l.reader.text ≡ l.fn.reader.text;
}

abbrev pub decreases-forms : goal.decreases-forms
decreases-forms g l = length l.reader.symbols
