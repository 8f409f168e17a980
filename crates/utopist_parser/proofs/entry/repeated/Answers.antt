use Rattle.std.proofs.Common.{map, refl, ◌∙◌, arith}
use Rattle.std.proofs.lemmas.Result.{err_from_is_err_and}
use Rattle.token_forms.proofs.Loops.{ends, fails}
use Rattle.token_forms.proofs.Starts.{none_seen, seen_on}
use Rattle.utopist_parser.proofs.entry.repeated.Goals as goal

pub entries-init : goal.entries-init
entries-init g c = record {
  reads = none_seen g.T.Entry.tree g.T.Entry.begins (g.T.Entry.step 63) _ c.args.reader.now.symbols c.new-found.ensures;
  shorter = omega arith;
  text = refl;
}

pub returns-in_err-read-clause-reads : goal.returns-in_err-read-clause-reads
returns-in_err-read-clause-reads g c =
    let p = err_from_is_err_and c.from_residual.result c.from_residual.ensures.1 in
    rw (p.1, p.2) (fails g.T.Entry.begins (g.T.Entry.step 63) _ (map g.T.Entry.tree c.entries.found) c.entries.reader.symbols _ c.entries-test.ensures c.in_err-read.ensures.reads c.entries.invariant.reads)

pub entries-preserved : goal.entries-preserved
entries-preserved g c = record {
  reads = seen_on g.T.Entry.tree g.T.Entry.begins (g.T.Entry.step 63) c.entries.found _ c.in_ok-read.field-0 c.entries.reader.symbols c.read.new.reader.symbols _ c.in_ok-push.ensures.ok c.entries-test.ensures c.in_ok-read.ensures.reads c.in_ok-read.ensures.goes_on.1 c.entries.invariant.reads;
  shorter = omega (arith, c.in_ok-read.ensures.goes_on.1, c.entries.invariant.shorter);
  text = c.in_ok-read.ensures.goes_on.0 ∙ c.entries.invariant.text;
}

pub returns-clause-reads : goal.returns-clause-reads
returns-clause-reads g c = ends g.T.Entry.begins (g.T.Entry.step 63) (map g.T.Entry.tree c.entries.found) c.entries.reader.symbols _ c.entries-test.ensures c.entries.invariant.reads
